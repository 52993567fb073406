-- The laws of residues whose roots of one are the powers of a generator, from two computed numbers.
use Rattle.std.proofs.Common.{◌≡◌, ℕ, ◌+◌, ◌-◌, ◌*◌, ◌%◌, ◌^◌, ◌<◌, subst, arith}
use Rattle.field_laws.specs.Ring.{Ring, RingLaws, RootLaws, power}
use Rattle.field_laws.specs.Residues.{Residues, residue_ring}
use Rattle.field_laws.specs.Primes.{IsPrime}
use Rattle.field_laws.proofs.Modulo.{residue_ring_laws}
use Rattle.field_laws.proofs.Compute.{power_modulo, power_turns, half_doubled, roots_from}
use Rattle.field_laws.proofs.Proth.{proth}

-- what the trait asks of a field, but for how its elements are kept
pub record FieldLaws {F : Type 0} (p : ℕ) (ring : Ring F) (half : F) (root : ℕ → F) : Type 0 where
  pub ring_laws : RingLaws ring
  pub root_laws : RootLaws ring 16 root
  pub half_law : ring.add half half ≡ ring.unit
  pub prime : IsPrime p

module _ {F : Type 0} {p : ℕ} {number : F → ℕ} {residue : ℕ → F} (residues : Residues p number residue) where
  -- where x raised to e has order 2 ^ k, since x raised to e 2 ^ (k - 1) is p - 1, and h is half of one
  pub generated : (bits x e k h : ℕ) → e * 2 ^ (k - 1) < 2 ^ bits → 16 < k → p < 2 ^ k * 2 ^ k → power_modulo p x bits (e * 2 ^ (k - 1)) ≡ p - 1 → (h + h) % p ≡ 1 % p
      → FieldLaws p (residue_ring p number residue) (residue h) (λ log. power (residue_ring p number residue) (power (residue_ring p number residue) (residue x) e) (2 ^ (k - log)))
  generated bits x e k h fits long below turn half =
      let ring : Ring F = residue_ring p number residue in
      let laws = residue_ring_laws residues in
      let g : F = power ring (residue x) e in
      let turns : power ring g (2 ^ (k - 1)) ≡ ring.neg ring.unit = power_turns residues bits x e (2 ^ (k - 1)) fits turn in
      let halves : ring.add (residue h) (residue h) ≡ ring.unit = half_doubled residues h half in record {
        ring_laws = laws;
        root_laws = roots_from laws g k 16 long turns;
        half_law = halves;
        prime = proth residues (residue h) g (k - 1) halves turns (subst (λ j. p < 2 ^ j * 2 ^ j) (let s : k ≡ k - 1 + 1 = omega arith in s) below);
      }
