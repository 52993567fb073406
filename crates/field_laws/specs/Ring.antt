-- Commutative rings with one, powers in them, and roots of one.
use Rattle.std.specs.Prelude.{◌≡◌, ◌≢◌, ℕ, ◌+◌, ◌<◌, ◌^◌}
use Rattle.std.proofs.Common.{zero, suc}

-- what a ring is made of
pub record Ring (F : Type 0) : Type 0 where
  pub nought : F
  pub unit : F
  pub add : F → F → F
  pub neg : F → F
  pub mul : F → F → F

-- these are a commutative ring with one
pub record RingLaws {F : Type 0} (ring : Ring F) : Type 0 where
  pub add_assoc : (a b c : F) → ring.add (ring.add a b) c ≡ ring.add a (ring.add b c)
  pub add_comm : (a b : F) → ring.add a b ≡ ring.add b a
  pub add-nought : (a : F) → ring.add a ring.nought ≡ a
  pub add-neg : (a : F) → ring.add a (ring.neg a) ≡ ring.nought
  pub mul_assoc : (a b c : F) → ring.mul (ring.mul a b) c ≡ ring.mul a (ring.mul b c)
  pub mul_comm : (a b : F) → ring.mul a b ≡ ring.mul b a
  pub mul-unit : (a : F) → ring.mul a ring.unit ≡ a
  pub mul-add : (a b c : F) → ring.mul a (ring.add b c) ≡ ring.add (ring.mul a b) (ring.mul a c)

-- x multiplied by itself n times
unfoldable pub power : {F : Type 0} → Ring F → F → ℕ → F
power ring x zero = ring.unit
power ring x (suc n) = ring.mul x (power ring x n)

-- a minus b
abbrev pub minus : {F : Type 0} → Ring F → F → F → F
minus ring a b = ring.add a (ring.neg b)

-- the n-th power of x is one, and no earlier one is
pub record HasOrder {F : Type 0} (ring : Ring F) (x : F) (n : ℕ) : Type 0 where
  pub returns : power ring x n ≡ ring.unit
  pub no_earlier : (k : ℕ) → 0 < k → k < n → power ring x k ≢ ring.unit

-- for each n up to most, root n is a root of one of order 2 ^ n: halfway there it is minus one, and its square is the root before
pub record RootLaws {F : Type 0} (ring : Ring F) (most : ℕ) (root : ℕ → F) : Type 0 where
  pub first : root 0 ≡ ring.unit
  pub square : (n : ℕ) → n < most → ring.mul (root (n + 1)) (root (n + 1)) ≡ root n
  pub turns : (n : ℕ) → n < most → power ring (root (n + 1)) (2 ^ n) ≡ ring.neg ring.unit
