-- The numbers below p, with sum and product modulo p.
use Rattle.std.specs.Prelude.{◌≡◌, ℕ, ◌+◌, ◌-◌, ◌*◌, ◌%◌, ◌^◌, ◌<◌}
use Rattle.field_laws.specs.Ring.{Ring, power, minus}

-- number and residue lead from F to the numbers below p and back
pub record Residues {F : Type 0} (p : ℕ) (number : F → ℕ) (residue : ℕ → F) : Type 0 where
  pub large : 1 < p
  pub below : (x : F) → number x < p
  pub residue-number : (x : F) → residue (number x) ≡ x
  pub number-residue : (n : ℕ) → number (residue n) ≡ n % p

-- the ring of these residues: each answer is the residue of the numbers' sum, difference or product
abbrev pub residue_ring : {F : Type 0} → ℕ → (F → ℕ) → (ℕ → F) → Ring F
residue_ring p number residue = record {
  nought = residue 0;
  unit = residue 1;
  add = λ a b. residue (number a + number b);
  neg = λ a. residue (p - number a);
  mul = λ a b. residue (number a * number b);
}

-- the ring counts modulo p: what each answer is as a number
pub record IsModular {F : Type 0} (p : ℕ) (number : F → ℕ) (ring : Ring F) : Type 0 where
  pub nought : number ring.nought ≡ 0
  pub unit : number ring.unit ≡ 1
  pub add : (a b : F) → number (ring.add a b) ≡ (number a + number b) % p
  pub minus : (a b : F) → number (minus ring a b) ≡ (number a + (p - number b)) % p
  pub neg : (a : F) → number (ring.neg a) ≡ (p - number a) % p
  pub mul : (a b : F) → number (ring.mul a b) ≡ (number a * number b) % p
  pub power : (a : F) (n : ℕ) → number (power ring a n) ≡ (number a ^ n) % p
