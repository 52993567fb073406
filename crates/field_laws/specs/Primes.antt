-- Primes, and rings without divisors of nought.
use Rattle.std.specs.Prelude.{◌≡◌, ℕ, ◌*◌, ◌<◌, ◌⊎◌}
use Rattle.field_laws.specs.Ring.{Ring}

-- p is above one, and of two numbers whose product it is, one is one
pub record IsPrime (p : ℕ) : Type 0 where
  pub above_one : 1 < p
  pub factors : (d e : ℕ) → d * e ≡ p → (d ≡ 1) ⊎ (e ≡ 1)

-- a product is nought only where a factor is
abbrev pub NoDivisors : {F : Type 0} → Ring F → Type 0
NoDivisors {F = F} ring = (a b : F) → ring.mul a b ≡ ring.nought → (a ≡ ring.nought) ⊎ (b ≡ ring.nought)
