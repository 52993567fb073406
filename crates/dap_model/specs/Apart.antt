-- The collected batches of a task share no bucket.
use Rattle.std.specs.Prelude.{◌≡◌, ◌≤◌, ℕ, List, [], ◌∷◌, false, Some}
use Rattle.std.specs.List.{All, Contains}
use Rattle.dap_bytes.specs.Spans.{buckets_of, shares_bucket}
use Rattle.dap_bytes.specs.declared.span.Span.{Span}
use Rattle.dap_tasks.specs.Task.{PlainTask}
use Rattle.dap_model.specs.Collections.{WasCollected}
use Rattle.dap_model.specs.State.{Batch, State, task_named}

-- where both batches are of one known task, they share no bucket
abbrev pub AreApart : List PlainTask → Batch → Batch → Type 0
AreApart tasks a b =
    (t : PlainTask) → task_named tasks a.task ≡ Some t → b.task ≡ a.task
    → shares_bucket a.span b.span t.precision ≡ false

-- each batch has a bucket, and no two batches of a known task share one
abbrev pub ShareNoBucket : List PlainTask → List Batch → Type 0
ShareNoBucket tasks [] = Unit {0}
ShareNoBucket tasks (b ∷ more) = (1 ≤ b.span.buckets) × All (AreApart tasks b) more × ShareNoBucket tasks more

-- the collected batches of each known task share no bucket
abbrev pub IsApart : State → Type 0
IsApart s = ShareNoBucket s.tasks s.collected

-- the batch of the task was collected, and holds the bucket
pub record HoldsCollected (s : State) (t : PlainTask) (span : Span) (bucket : ℕ) : Type 0 where
  pub collected : WasCollected s t.name span
  pub holds : Contains (buckets_of span t.precision) bucket
