-- What a report comes to that a line offers to its task, in the words of what is known.
use Rattle.std.specs.Prelude.{◌≡◌, ℕ, List, [], ◌∷◌, ◌++◌, true, false}
use Rattle.std.specs.List.{Contains}
use Rattle.dap_bytes.specs.Spans.{buckets_of}
use Rattle.dap_batch.specs.Group.{batch_start}
use Rattle.dap_messages.specs.Messages.{report}
use Rattle.dap_messages.specs.declared.report.Report.{Report}
use Rattle.dap_tasks.specs.Judged.{is_early, is_expired}
use Rattle.dap_tasks.specs.Task.{PlainTask}
use Rattle.dap_tasks.specs.declared.cause.Cause.TheVariants as cause
use Rattle.dap_model.specs.State.{Batch, State}
use Rattle.dap_model.specs.Step.{Outcome, refused}

-- The task's identifier is known with these bytes: those of an accepted report.
pub record IsKnown (s : State) (name id bytes : List ℕ) : Type 0 where
  pub known : Report
  pub accepted : Contains s.accepted known
  pub of_task : known.name ≡ name
  pub of_id : known.id ≡ id
  pub spelled : report.spell known ≡ bytes

-- The bucket of this task in which the time falls lies in a batch that was collected.
pub record IsClosed (s : State) (name : List ℕ) (precision time : ℕ) : Type 0 where
  pub batch : Batch
  pub collected : Contains s.collected batch
  pub of_task : batch.task ≡ name
  pub holds : Contains (buckets_of batch.span precision) (batch_start time precision)

-- The report isn't early, and its task hasn't expired.
pub record IsInTime (s : State) (t : PlainTask) (r : Report) : Type 0 where
  pub not_early : is_early s.moment r.time ≡ false
  pub not_expired : is_expired s.moment t.expires ≡ false

-- What follows where line k offers a report to a task, by the first that applies: it is known already, it is early, the
-- task has expired, its identifier is known with other bytes, its bucket was collected; else it is accepted.
pub record IsJudged (s : State) (k : ℕ) (t : PlainTask) (r : Report) (after : Outcome) : Type 0 where
  pub again : IsKnown s r.name r.id (report.spell r) → after ≡ (s, [])
  pub early : (IsKnown s r.name r.id (report.spell r) → ⊥) → is_early s.moment r.time ≡ true
      → after ≡ refused s k cause.Early
  pub expired : (IsKnown s r.name r.id (report.spell r) → ⊥) → is_early s.moment r.time ≡ false
      → is_expired s.moment t.expires ≡ true → after ≡ refused s k cause.Expired
  pub conflict : (IsKnown s r.name r.id (report.spell r) → ⊥) → IsInTime s t r
      → (bytes : List ℕ) → IsKnown s r.name r.id bytes → after ≡ refused s k cause.Conflict
  pub collected : ((bytes : List ℕ) → IsKnown s r.name r.id bytes → ⊥) → IsInTime s t r
      → IsClosed s r.name t.precision r.time → after ≡ refused s k cause.Collected
  pub else_accepted : ((bytes : List ℕ) → IsKnown s r.name r.id bytes → ⊥) → IsInTime s t r
      → (IsClosed s r.name t.precision r.time → ⊥) → after ≡ (record s { accepted = s.accepted ++ r ∷ [] }, [])
