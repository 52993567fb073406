-- What journals show of the collections. Lists of records have the newest first.
use Rattle.std.specs.Prelude.{◌≡◌, ℕ, ◌<◌, ◌≤◌, IsTrue, List, length, map, Some}
use Rattle.std.specs.List.{filter_map}
use Rattle.dap_bytes.specs.declared.span.Span.{Span}
use Rattle.dap_bytes.specs.Spans.{holds_bucket}
use Rattle.dap_batch.specs.Group.{batch_start}
use Rattle.vdaf_api.specs.Functions.{Functions}
use Rattle.vdaf_api.specs.Totals.{total, total_numbers}
use Rattle.vdaf_api.specs.Vectors.{plus, numbers}
use Rattle.vdaf_api.specs.declared.kind.Kind.{Kind}
use Rattle.dap_messages.specs.declared.body.Half.{Half}
use Rattle.dap_messages.specs.declared.body.Step.{Step}
use Rattle.dap_messages.specs.declared.item.Tagged.{Tagged}
use Rattle.dap_messages.specs.declared.job.JobNo.{JobNo}
use Rattle.dap_messages.specs.declared.report.Report.{Report}
use Rattle.dap_tasks.specs.Task.{PlainTask}
use Rattle.dap_seal.specs.Reports.{content_numbers_of}
use Rattle.lane_records.specs.declared.batch.Answered.{Answered}
use Rattle.lane_records.specs.declared.closed.Closed.{Closed}
use Rattle.lane_records.specs.declared.outcome.Outcome.{Outcome}
use Rattle.lane_records.specs.declared.record.Record.{Record}
use Rattle.lane_records.specs.declared.record.Record.TheVariants.{Continue, Finish, Start, Commit, LeaderAnswer, LeaderClose, HelperClose}
use Rattle.legal_journals.specs.History.{Mem}
use Rattle.legal_journals.specs.LegalLanes.{Finishes}
use Rattle.dap_agree.specs.Agree.{Batch}
use Rattle.dap_agree.specs.Fronts.{Journals, held, asks_of, Cell, cells_of}
use Rattle.dap_agree.specs.Lists.{Distinct}
use Rattle.dap_messages.specs.Reports.{report_ids}
use Rattle.legal_journals.specs.JobReports.{Has}
use Rattle.dap_agree.specs.Verdicts.{IsCounted, content}
use Rattle.legal_journals.specs.Told.{leader_told, helper_told, numbers_of}

-- the leader's lane finished the report in this job
abbrev pub FinishedIn : List Record → List ℕ → List ℕ → JobNo → Type 0
FinishedIn l n id j =
    (xs : List (Tagged Step)) × (outs : List (Tagged Outcome)) × Mem (Continue n j xs) l × Mem (Finish j outs) l × Finishes id outs

-- the helper's lane did
abbrev pub CommittedIn : List Record → List ℕ → List ℕ → JobNo → Type 0
CommittedIn h n id j =
    (hs : List (Tagged Half)) × (outs : List (Tagged Outcome)) × Mem (Start j n hs) h × Mem (Commit j outs) h × Finishes id outs

-- These reports are those that both nodes finished in some buckets: each was accepted in the bucket that its time gives,
-- and none stands twice.
pub record CellsShown (t : PlainTask) (js : Journals) (n : List ℕ) (cs : List Cell) (rs : List Report) : Type 0 where
  pub accepted : (r : Report) → Mem r rs → (x : Cell) × Mem x cs × Has n r (js.leaders x.lane) × (batch_start r.time t.precision ≡ x.start)
      × Finishes r.id (leader_told t.precision n x.start (js.leaders x.lane)) × Finishes r.id (helper_told t.precision n x.start (js.helpers x.lane))
  pub leader : (x : Cell) (id : List ℕ) → Mem x cs → Finishes id (leader_told t.precision n x.start (js.leaders x.lane)) → Mem id (report_ids rs)
  pub helper : (x : Cell) (id : List ℕ) → Mem x cs → Finishes id (helper_told t.precision n x.start (js.helpers x.lane)) → Mem id (report_ids rs)
  pub once : Distinct (report_ids rs)

-- An Answer's count is the number of these reports, at least the minimum. The verdict on each is ok, and the Answer's shares add to the sum of their contents, as bytes and as numbers.
pub record AnswerShown (f : Kind → Functions) (t : PlainTask) (js : Journals) (b : Batch) (a : Answered) (rs : List Report) : Type 0 where
  pub cells : CellsShown t js b.name (cells_of js t b) rs
  pub many : length rs ≡ a.count
  pub enough : t.min ≤ a.count
  pub counted : (r : Report) → Mem r rs → IsCounted f t r
  pub exact : plus (f t.kind).space a.leader a.helper ≡ total (f t.kind).space (map (content f t) rs)
  pub summed : numbers (f t.kind).space (plus (f t.kind).space a.leader a.helper)
      ≡ total_numbers (f t.kind).space (filter_map (content_numbers_of (f t.kind) t) rs)

-- journals show their collections
pub record Shown (f : Kind → Functions) (js : Journals) : Type 0 where
  -- no report of a task is finished twice, over all lanes and buckets
  pub leader_once : (i k : ℕ) (n id : List ℕ) (j j' : JobNo) → i < js.lanes → k < js.lanes →
      FinishedIn (js.leaders i) n id j → FinishedIn (js.leaders k) n id j' → (i ≡ k) × (j ≡ j')
  pub helper_once : (i k : ℕ) (n id : List ℕ) (j j' : JobNo) → i < js.lanes → k < js.lanes →
      CommittedIn (js.helpers i) n id j → CommittedIn (js.helpers k) n id j' → (i ≡ k) × (j ≡ j')
  -- no bucket lies in two batches that were asked for
  pub one_ask : (a b : Batch) (t : PlainTask) (s : ℕ) → Mem a (asks_of js.front) → Mem b (asks_of js.front) → a.name ≡ b.name →
      (held js).task a.name ≡ Some t → IsTrue (holds_bucket a.span t.precision s) → IsTrue (holds_bucket b.span t.precision s) → a ≡ b
  -- each Answer shows its reports
  pub answers : (n : List ℕ) (span : Span) (a : Answered) → Mem (LeaderAnswer n span a) js.front →
      (t : PlainTask) × ((held js).task n ≡ Some t) × ((rs : List Report) × AnswerShown f t js (record { name = n; span = span }) a rs)
  -- the fields of a Close are the numbers of the whole lane, before it and after
  pub closes : (k : ℕ) (n : List ℕ) (s : ℕ) (c : Closed) → k < js.lanes → Mem (LeaderClose n s c) (js.leaders k) →
      (t : PlainTask) × ((held js).task n ≡ Some t) × (c ≡ numbers_of (f t.kind).space (leader_told t.precision n s (js.leaders k)))
  pub helper_closes : (k : ℕ) (n : List ℕ) (s : ℕ) (c : Closed) → k < js.lanes → Mem (HelperClose n s c) (js.helpers k) →
      (t : PlainTask) × ((held js).task n ≡ Some t) × (c ≡ numbers_of (f t.kind).space (helper_told t.precision n s (js.helpers k)))
