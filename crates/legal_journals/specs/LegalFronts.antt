-- Which record may follow which in the journal of a front. Lists of records have the newest first.
use Rattle.std.specs.Prelude.{◌≡◌, ℕ, ◌≤◌, ◌<◌, false, IsTrue, if◌then◌else◌, List, Option, Some, None}
use Rattle.std.specs.Str.{bytes_eq}
use Rattle.dap_bytes.specs.declared.span.Span.{Span}
use Rattle.dap_bytes.specs.Spans.{passes_start, shares_bucket}
use Rattle.dap_messages.specs.declared.share.ShareReq.{ShareReq}
use Rattle.dap_messages.specs.declared.share.ShareResp.{ShareResp}
use Rattle.dap_messages.specs.declared.reply.Reply.TheVariants.{Share}
use Rattle.lane_records.specs.declared.stored.StoredTask.{StoredTask}
use Rattle.lane_records.specs.declared.batch.Answered.{Answered}
use Rattle.lane_records.specs.declared.record.Record.{Record}
use Rattle.lane_records.specs.declared.record.Record.TheVariants.{LeaderFrontOpen, LeaderTask, Ask, LeaderAnswer, HelperFrontOpen, HelperTask, HelperAnswer}
use Rattle.legal_journals.specs.History.{Mem, first, format_in, MayOpen}

-- the task that the record stores, if it is of this name
abbrev pub task_of_name : List ℕ → Record → Option StoredTask
task_of_name n (LeaderTask t) = if bytes_eq t.name n then Some t else None
task_of_name n (HelperTask t) = if bytes_eq t.name n then Some t else None
task_of_name n _ = None

-- the last task of this name that the front stored
abbrev pub last_task : List ℕ → List Record → Option StoredTask
last_task n old = first (task_of_name n) old

-- the batch may be one of the task's
abbrev pub MayBeOf : StoredTask → Span → Type 0
MayBeOf t s = (0 < t.precision) × IsTrue (passes_start s t.precision)

-- ---- the leader's front

-- the task of this name is stored
abbrev pub IsStored : List ℕ → List Record → Type 0
IsStored n old = (t : StoredTask) × Mem (LeaderTask t) old × (t.name ≡ n)

-- the leader's front answered for this batch of the name
abbrev pub IsLeaderAnswered : List ℕ → Span → List Record → Type 0
IsLeaderAnswered n s old = (a : Answered) × Mem (LeaderAnswer n s a) old

-- the record may follow these in the journal of the leader's front
abbrev pub LeaderFrontMay : Record → List Record → Type 0
LeaderFrontMay (LeaderFrontOpen f lanes) old = MayOpen f lanes old
LeaderFrontMay (LeaderTask t) old = (first format_in old ≡ Some t.format) × ¬ (IsStored t.name old)
LeaderFrontMay (Ask n s) old =
    (t : StoredTask) × (last_task n old ≡ Some t) × MayBeOf t s
    × ((other : Span) → Mem (Ask n other) old → shares_bucket s other t.precision ≡ false)
LeaderFrontMay (LeaderAnswer n s a) old = Mem (Ask n s) old × ¬ (IsLeaderAnswered n s old)
LeaderFrontMay _ old = ⊥

-- ---- the helper's front

-- the record may follow these in the journal of the helper's front
abbrev pub HelperFrontMay : Record → List Record → Type 0
HelperFrontMay (HelperFrontOpen f lanes) old = MayOpen f lanes old
HelperFrontMay (HelperTask t) old = first format_in old ≡ Some t.format
HelperFrontMay (HelperAnswer q a) old =
    ((t : StoredTask) × (last_task q.name old ≡ Some t) × (t.min ≤ q.count) × MayBeOf t q.span
    × ((other : ShareReq) (b : ShareResp) → Mem (HelperAnswer other b) old → other.name ≡ q.name → shares_bucket q.span other.span t.precision ≡ false))
    × (a.name ≡ q.name) × (a.span ≡ q.span) × ((share : List ℕ) × (a.reply ≡ Share share))
HelperFrontMay _ old = ⊥
