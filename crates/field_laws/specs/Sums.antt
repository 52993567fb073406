-- Sums in a ring.
use Rattle.std.specs.Prelude.{ℕ}
use Rattle.std.proofs.Common.{zero, suc}
use Rattle.field_laws.specs.Ring.{Ring}

-- the sum of f i over each i below n
unfoldable pub sum_to : {F : Type 0} → Ring F → ℕ → (ℕ → F) → F
sum_to ring zero f = ring.nought
sum_to ring (suc n) f = ring.add (sum_to ring n f) (f n)
