-- The polynomial that has given values at the powers of a root of one.
use Rattle.std.specs.Prelude.{◌≡◌, ℕ, ◌^◌, ◌<◌, ◌≤◌, List, map, length, slice_index_or}
use Rattle.std.specs.List.{range_with_len}
use Rattle.field_laws.specs.Ring.{Ring, power}
use Rattle.field_laws.specs.Polynomial.{eval}

-- n is 2 to a power of at most this
abbrev pub HasLog : ℕ → ℕ → Type 0
HasLog n most = (log : ℕ) × (log ≤ most) × (n ≡ 2 ^ log)

-- p has a coefficient for each value, and value k at x to the power k
pub record Interpolates {F : Type 0} (ring : Ring F) (x : F) (values p : List F) : Type 0 where
  pub size : length p ≡ length values
  pub value : (k : ℕ) → k < length values → eval ring p (power ring x k) ≡ slice_index_or values k ring.nought

-- coefficient j of it for 2 ^ log values: the values as a polynomial, at power j of the inverse y of x, halved log times
unfoldable pub coefficient : {F : Type 0} → Ring F → F → F → ℕ → List F → ℕ → F
coefficient ring half y log values j = ring.mul (power ring half log) (eval ring values (power ring y j))

-- all its coefficients
abbrev pub interpolation : {F : Type 0} → Ring F → F → F → ℕ → List F → List F
interpolation ring half y log values = map (coefficient ring half y log values) (range_with_len 0 (2 ^ log))
