-- Inputs that stay valid as the joint randomness changes.
use Rattle.std.specs.Prelude.{ℕ, ◌<◌, List, [], ◌∷◌, length, slice_index_or}
use Rattle.field_laws.specs.Ring.{Ring}
use Rattle.field_laws.specs.Points.{AreDifferent}
use Rattle.flp_circuits.specs.Shape.{Shape, IsValid}

-- the input is valid at each of these values of a joint randomness of one element, which are different
pub record StaysValid {F : Type 0} (ring : Ring F) (c : Shape F) (x rs : List F) : Type 0 where
  pub different : AreDifferent ring rs
  pub valid : (i : ℕ) → i < length rs → IsValid ring c x (slice_index_or rs i ring.nought ∷ [])

-- of a joint randomness of two elements: at each of these first ones, which are different, with three or more second ones each, which are different
pub record StaysValidAtPairs {F : Type 0} (ring : Ring F) (c : Shape F) (x firsts : List F) (seconds : ℕ → List F) : Type 0 where
  pub different : AreDifferent ring firsts
  pub three : (i : ℕ) → i < length firsts → 2 < length (seconds i)
  pub seconds_different : (i : ℕ) → i < length firsts → AreDifferent ring (seconds i)
  pub valid : (i j : ℕ) → i < length firsts → j < length (seconds i)
      → IsValid ring c x (slice_index_or firsts i ring.nought ∷ (slice_index_or (seconds i) j ring.nought ∷ []))
