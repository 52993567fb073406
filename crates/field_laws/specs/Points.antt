-- Lists of points, and the roots of a polynomial.
use Rattle.std.specs.Prelude.{◌≡◌, ◌≢◌, ℕ, ◌<◌, List, length, slice_index_or}
use Rattle.field_laws.specs.Ring.{Ring}
use Rattle.field_laws.specs.Polynomial.{eval}

-- no point stands twice in the list
abbrev pub AreDifferent : {F : Type 0} → Ring F → List F → Type 0
AreDifferent ring ts = (i j : ℕ) → i < j → j < length ts → slice_index_or ts i ring.nought ≢ slice_index_or ts j ring.nought

-- the polynomial p is nought at each point
abbrev pub AreRoots : {F : Type 0} → Ring F → List F → List F → Type 0
AreRoots ring p ts = (i : ℕ) → i < length ts → eval ring p (slice_index_or ts i ring.nought) ≡ ring.nought
