-- The plain state that journals stand for, and what Answers tell of it. Lists of records have the newest first.
use Rattle.std.specs.Prelude.{◌≡◌, ◌↔◌, ℕ, zero, suc, ◌+◌, ◌<◌, Bool, ◌&&◌, List, [], ◌++◌, length, filter, Option, Some, None}
use Rattle.std.specs.List.{filter_map}
use Rattle.std.specs.Str.{bytes_eq}
use Rattle.dap_bytes.specs.Spans.{holds_bucket}
use Rattle.dap_bytes.specs.declared.span.Span.{Span}
use Rattle.dap_batch.specs.Group.{batch_start}
use Rattle.vdaf_api.specs.Functions.{Functions}
use Rattle.vdaf_api.specs.Totals.{total_numbers}
use Rattle.vdaf_api.specs.Vectors.{plus, numbers}
use Rattle.vdaf_api.specs.declared.kind.Kind.{Kind}
use Rattle.dap_messages.specs.declared.report.Report.{Report}
use Rattle.dap_seal.specs.Reports.{content_numbers_of}
use Rattle.dap_tasks.specs.Task.{PlainTask}
use Rattle.lane_records.specs.Records.{accept_of, leader_task_of}
use Rattle.lane_records.specs.declared.batch.Answered.{Answered}
use Rattle.lane_records.specs.declared.record.Record.{Record}
use Rattle.lane_records.specs.declared.record.Record.TheVariants.{Accept, Ask}
use Rattle.lane_records.specs.declared.stored.StoredTask.{StoredTask}
use Rattle.legal_journals.specs.History.{Mem}
use Rattle.dap_agree.specs.Agree.{Batch, Fronts}
use Rattle.dap_agree.specs.Fronts.{Journals, held, asks_of}
use Rattle.dap_agree.specs.Lists.{Distinct}

-- the known tasks, the accepted reports and the collected batches; there is no moment
pub record PlainState : Type 0 where
  pub tasks : List PlainTask
  pub accepted : List Report
  pub collected : List Batch

-- the whole task of the name of a stored one
abbrev pub whole_of : Fronts → Option StoredTask → Option PlainTask
whole_of fr None = None
whole_of fr (Some t) = fr.task t.name

-- the accepted reports of a lane
abbrev pub accepts_of : List Record → List Report
accepts_of l = filter_map accept_of l

-- those of the first lanes
abbrev pub accepted_to : (ℕ → List Record) → ℕ → List Report
accepted_to leaders zero = []
accepted_to leaders (suc k) = accepts_of (leaders k) ++ accepted_to leaders k

-- The plain state of journals: the whole tasks of the leader's, the reports of all Accepts, and the batches of all Asks.
abbrev pub plain_state : Journals → PlainState
plain_state js = record {
  tasks = filter_map (λ x. whole_of (held js) (leader_task_of x)) js.front;
  accepted = accepted_to js.leaders js.lanes;
  collected = asks_of js.front;
}

-- What stands in the plain state of legal journals: each whole task under its name, each accepted report once and under no other report's name and identifier, each batch that was asked for.
pub record StandsFor (js : Journals) (s : PlainState) : Type 0 where
  pub tasks : (t : PlainTask) → Mem t s.tasks ↔ ((held js).task t.name ≡ Some t)
  pub accepted : (r : Report) → Mem r s.accepted ↔ ((k : ℕ) × (k < js.lanes) × Mem (Accept r) (js.leaders k))
  pub once : Distinct s.accepted
  pub one : (r other : Report) → Mem r s.accepted → Mem other s.accepted → r.name ≡ other.name → r.id ≡ other.id → r ≡ other
  pub collected : (b : Batch) → Mem b s.collected ↔ Mem (Ask b.name b.span) js.front

-- ---- a batch of the plain state

-- a report of this task whose bucket the batch holds
abbrev pub in_batch : PlainTask → Span → Report → Bool
in_batch t span r = bytes_eq r.name t.name && holds_bucket span t.precision (batch_start r.time t.precision)

-- the reports of the batch
abbrev pub batch_of : PlainTask → Span → List Report → List Report
batch_of t span reports = filter (in_batch t span) reports

-- the vectors of those that have a content
abbrev pub contents_of : (Kind → Functions) → PlainTask → List Report → List (List ℕ)
contents_of f t reports = filter_map (content_numbers_of (f t.kind) t) reports

-- An Answer tells of these reports: it counts those that have a content and those that have none, and its shares add to the sum of the contents.
pub record TellsOf (f : Kind → Functions) (t : PlainTask) (a : Answered) (reports : List Report) : Type 0 where
  pub count : a.count ≡ length (contents_of f t reports)
  pub each_once : a.count + a.rejected ≡ length reports
  pub sum : numbers (f t.kind).space (plus (f t.kind).space a.leader a.helper) ≡ total_numbers (f t.kind).space (contents_of f t reports)
