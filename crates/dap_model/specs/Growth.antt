-- What a state keeps of an earlier one.
use Rattle.std.specs.Prelude.{◌≡◌, ◌≤◌, ℕ, List, ◌++◌, Option, Some}
use Rattle.dap_messages.specs.declared.report.Report.{Report}
use Rattle.dap_model.specs.State.{Batch, State}

-- a moment that is known stays known, and doesn't fall
abbrev pub NeverFalls : Option ℕ → Option ℕ → Type 0
NeverFalls old new = (earlier : ℕ) → old ≡ Some earlier → (later : ℕ) × (new ≡ Some later) × (earlier ≤ later)

-- The first state grows to the second: its accepted reports and its collected batches stand in front of the second's,
-- in their order. The same tasks are known, and the moment doesn't fall.
pub record GrowsTo (old new : State) : Type 0 where
  pub tasks : new.tasks ≡ old.tasks
  pub moment : NeverFalls old.moment new.moment
  pub reports_behind : List Report
  pub accepted : new.accepted ≡ old.accepted ++ reports_behind
  pub batches_behind : List Batch
  pub collected : new.collected ≡ old.collected ++ batches_behind
