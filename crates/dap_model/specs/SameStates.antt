-- States whose accepted reports and collected batches are the same, in whatever order.
use Rattle.std.specs.Prelude.{◌≡◌, ◌↔◌, List}
use Rattle.std.specs.List.{Contains}
use Rattle.dap_model.specs.Apart.{IsApart}
use Rattle.dap_model.specs.Changes.{AreDistinct}
use Rattle.dap_model.specs.State.{State}
use Rattle.dap_model.specs.Step.{Outcome}

-- the lists have the same elements
abbrev pub HaveSame : {X : Type 0} → List X → List X → Type 0
HaveSame {X} xs ys = (x : X) → Contains xs x ↔ Contains ys x

-- No two accepted reports have the same task and identifier, and the collected batches of each known task share no bucket.
pub record IsValid (s : State) : Type 0 where
  pub distinct : AreDistinct s.accepted
  pub apart : IsApart s

-- The same tasks are known, and the same moment; the same reports are accepted, with a content or rejected, and the same
-- batches collected, in whatever order.
pub record SameState (a b : State) : Type 0 where
  pub tasks : b.tasks ≡ a.tasks
  pub moment : b.moment ≡ a.moment
  pub accepted : HaveSame a.accepted b.accepted
  pub collected : HaveSame a.collected b.collected

-- the same is printed, and the states behind it are the same
abbrev pub SameOutcome : Outcome → Outcome → Type 0
SameOutcome a b = (b.1 ≡ a.1) × SameState a.0 b.0
