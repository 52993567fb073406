-- Modulo a prime, a product is nought only where a factor is.
use Rattle.std.proofs.Common.{◌≡◌, ℕ, zero, suc, [], ◌+◌, ◌*◌, ◌/◌, ◌%◌, ◌<◌, ◌≤◌, ◌⊎◌, inl, inr, subst, sym, ap, ◌∙◌, arith}
use Rattle.std.proofs.Math.Nat.{mul_comm, mul-one, div-add-mod, mod-lt, mod_self, mod-eq_of_lt}
use Rattle.std.proofs.lemmas.Bool.{cases_lt}
use Rattle.field_laws.specs.Ring.{Ring}
use Rattle.field_laws.specs.Residues.{Residues, residue_ring}
use Rattle.field_laws.specs.Primes.{IsPrime, NoDivisors}
use Rattle.field_laws.proofs.Modulo.{residue_ring_laws, residue-mul, residue-add, same_residue}
use Rattle.field_laws.proofs.Solve.{mul-nought, nought-mul, nought-add, add-mul}

module _ {F : Type 0} {p : ℕ} {number : F → ℕ} {residue : ℕ → F} (residues : Residues p number residue) where
  -- where x y is nought, y is: p divided by x leaves less than x, and that times y is nought too
  descent : IsPrime p → (fuel x : ℕ) (y : F) → x < fuel → 0 < x → x < p → (residue_ring p number residue).mul (residue x) y ≡ (residue_ring p number residue).nought → y ≡ (residue_ring p number residue).nought
  descent prime zero x y less some small h = absurd (omega arith)
  descent prime (suc fuel) x y less some small h =
      let ring : Ring F = residue_ring p number residue in
      let laws = residue_ring_laws residues in
      let r : ℕ = p % x in
      let k : ℕ = p / x in
      let rest_small : r < x = mod-lt p some in
      let parts : x * k + r ≡ p = div-add-mod p x in
      let sum : ring.add (ring.mul (residue k) (residue x)) (residue r) ≡ ring.nought =
      ap (λ a. ring.add a (residue r)) (residue-mul residues k x) ∙ residue-add residues (k * x) r
      ∙ ap residue (ap (λ a. a + r) (mul_comm k x) ∙ parts) ∙ same_residue residues p 0 (mod_self p ∙ sym (mod-eq_of_lt (omega (arith, residues.large)))) in
      let first : ring.mul (ring.mul (residue k) (residue x)) y ≡ ring.nought =
      laws.mul_assoc (residue k) (residue x) y ∙ ap (ring.mul (residue k)) h ∙ mul-nought laws [] (residue k) in
      let rest_nought : ring.mul (residue r) y ≡ ring.nought =
      sym (nought-add laws [] _) ∙ ap (λ a. ring.add a (ring.mul (residue r) y)) (sym first) ∙ sym (add-mul laws [] (ring.mul (residue k) (residue x)) (residue r) y)
      ∙ ap (λ a. ring.mul a y) sum ∙ nought-mul laws [] y in
      last parts (cases_lt 0 r) (λ more. descent prime fuel (p % x) y (omega arith) more (omega arith) rest_nought)
    where
      unit_case : x ≡ 1 → y ≡ (residue_ring p number residue).nought
      unit_case e = sym (laws_unit y) ∙ ap (λ n. (residue_ring p number residue).mul (residue n) y) (sym e) ∙ h
        where
          laws_unit : (z : F) → (residue_ring p number residue).mul (residue 1) z ≡ z
          laws_unit z = (residue_ring_laws residues).mul_comm _ _ ∙ (residue_ring_laws residues).mul-unit z

      whole : x * (p / x) ≡ p → (x ≡ 1) ⊎ (p / x ≡ 1) → y ≡ (residue_ring p number residue).nought
      whole parts (inl e) = unit_case e
      whole parts (inr e) = absurd (let same : x ≡ p = sym (mul-one x) ∙ ap (λ k. x * k) (sym e) ∙ parts in omega arith)

      last : x * (p / x) + p % x ≡ p → (0 < p % x) ⊎ (p % x ≤ 0) → (0 < p % x → y ≡ (residue_ring p number residue).nought) → y ≡ (residue_ring p number residue).nought
      last parts (inl more) next = next more
      last parts (inr none) next = whole (let e : x * (p / x) ≡ p = omega arith in e) (prime.factors x (p / x) (let e : x * (p / x) ≡ p = omega arith in e))

  pub no_divisors : IsPrime p → NoDivisors (residue_ring p number residue)
  no_divisors prime a b h = cases (cases_lt 0 (number a))
    where
      cases : (0 < number a) ⊎ (number a ≤ 0) → (a ≡ (residue_ring p number residue).nought) ⊎ (b ≡ (residue_ring p number residue).nought)
      cases (inl some) = inr (descent prime p (number a) b (residues.below a) some (residues.below a) (ap (λ x. (residue_ring p number residue).mul x b) (residues.residue-number a) ∙ h))
      cases (inr none) = inl (sym (residues.residue-number a) ∙ ap residue (let e : number a ≡ 0 = omega arith in e))

  -- the same of a ring that is these residues
  pub prime_divisors : {ring : Ring F} → ring ≡ residue_ring p number residue → IsPrime p → NoDivisors ring
  prime_divisors is_ring prime = subst NoDivisors (sym is_ring) (no_divisors prime)
