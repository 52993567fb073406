-- Powers modulo p that are computed, and roots from one such power.
use Rattle.std.proofs.Common.{◌≡◌, ℕ, zero, suc, ◌+◌, ◌-◌, ◌*◌, ◌%◌, ◌/◌, ◌^◌, ◌<◌, [], sym, ap, ◌∙◌, arith}
use Rattle.std.proofs.Math.Nat.{pow-suc, pow-zero, one-mul, mod-mod}
use Rattle.std.proofs.lemmas.Nat.{pow-add}
use Rattle.field_laws.specs.Ring.{Ring, RingLaws, RootLaws, power}
use Rattle.field_laws.specs.Residues.{Residues, residue_ring}
use Rattle.field_laws.proofs.Modulo.{same_residue, residue_ring_laws, residue-mul, residue-add, number-small}
use Rattle.field_laws.proofs.Powers.{power-zero, power-one, power-add, power-mul, power-double, power-two}
use Rattle.field_laws.proofs.Solve.{cancel, mul-nought}

-- x ^ e modulo p, for e below 2 ^ f
abbrev pub power_modulo : ℕ → ℕ → ℕ → ℕ → ℕ
power_modulo p x zero e = 1
power_modulo p x (suc f) e = (power_modulo p ((x * x) % p) f (e / 2) * x ^ (e % 2)) % p

module _ {F : Type 0} {p : ℕ} {number : F → ℕ} {residue : ℕ → F} (laws : Residues p number residue) where
  ring : Ring F
  ring = residue_ring p number residue

  pub residue_mod : (n : ℕ) → residue (n % p) ≡ residue n
  residue_mod n = same_residue laws _ _ (mod-mod n p)

  pub residue-power_bit : (x b : ℕ) → b < 2 → power (residue_ring p number residue) (residue x) b ≡ residue (x ^ b)
  residue-power_bit x zero h = power-zero (residue_ring_laws laws) (residue x) ∙ ap residue (sym (pow-zero x))
  residue-power_bit x (suc zero) h = power-one (residue_ring_laws laws) (residue x) ∙ ap residue (sym (pow-suc x zero ∙ ap (λ y. y * x) (pow-zero x) ∙ one-mul x))
  residue-power_bit x (suc (suc b)) h = absurd (omega arith)

  pub residue-power : (f x e : ℕ) → e < 2 ^ f → power (residue_ring p number residue) (residue x) e ≡ residue (power_modulo p x f e)
  residue-power zero x e h = ap (power (residue_ring p number residue) (residue x)) (let k : e ≡ 0 = omega arith in k) ∙ power-zero (residue_ring_laws laws) (residue x)
  residue-power (suc f) x e h =
      let ring_laws = residue_ring_laws laws in
      let half_small : e / 2 < 2 ^ f = omega (arith, pow-suc 2 f) in
      let square = residue-mul laws x x ∙ sym (residue_mod (x * x)) in
      ap (power (residue_ring p number residue) (residue x)) (let k : e ≡ 2 * (e / 2) + e % 2 = omega arith in k)
      ∙ power-add ring_laws (residue x) (2 * (e / 2)) (e % 2)
      ∙ ap (λ y. (residue_ring p number residue).mul y (power (residue_ring p number residue) (residue x) (e % 2))) (power-double ring_laws (residue x) (e / 2) ∙ ap (λ y. power (residue_ring p number residue) y (e / 2)) square ∙ residue-power f ((x * x) % p) (e / 2) half_small)
      ∙ ap ((residue_ring p number residue).mul (residue (power_modulo p ((x * x) % p) f (e / 2)))) (residue-power_bit x (e % 2) (omega arith))
      ∙ residue-mul laws _ _ ∙ sym (residue_mod _)

module _ {F : Type 0} {ring : Ring F} (laws : RingLaws ring) where
  pub neg-unit_square : ring.mul (ring.neg ring.unit) (ring.neg ring.unit) ≡ ring.unit
  neg-unit_square =
      cancel laws [] (ring.neg ring.unit) _ _
      (ap (λ x. ring.add x (ring.mul (ring.neg ring.unit) (ring.neg ring.unit))) (sym (laws.mul-unit (ring.neg ring.unit)))
      ∙ sym (laws.mul-add (ring.neg ring.unit) ring.unit (ring.neg ring.unit))
      ∙ ap (ring.mul (ring.neg ring.unit)) (laws.add-neg ring.unit)
      ∙ mul-nought laws [] (ring.neg ring.unit)
      ∙ sym (laws.add_comm (ring.neg ring.unit) ring.unit ∙ laws.add-neg ring.unit))

  -- the powers of g whose exponents are powers of two, where g raised to half of 2 ^ k is minus one
  pub roots_from : (g : F) (k most : ℕ) → most < k → power ring g (2 ^ (k - 1)) ≡ ring.neg ring.unit → RootLaws ring most (λ n. power ring g (2 ^ (k - n)))
  roots_from g k most h turn = record {
    first =
        ap (power ring g) (let e : 2 ^ (k - 0) ≡ 2 ^ (k - 1) * 2 = twice k (omega arith) in e)
        ∙ power-mul laws g (2 ^ (k - 1)) 2 ∙ power-two laws _ ∙ ap (λ x. ring.mul x x) turn ∙ neg-unit_square;
    square = λ n small.
        sym (power-two laws (power ring g (2 ^ (k - (n + 1))))) ∙ sym (power-mul laws g (2 ^ (k - (n + 1))) 2)
        ∙ ap (power ring g) (sym (after n (omega arith)));
    turns = λ n small.
        sym (power-mul laws g (2 ^ (k - (n + 1))) (2 ^ n)) ∙ ap (power ring g) (sym (pow-add 2 (k - (n + 1)) n) ∙ ap (λ j. 2 ^ j) (let e : k - (n + 1) + n ≡ k - 1 = omega arith in e)) ∙ turn;
  }
    where
      twice : (j : ℕ) → 0 < j → 2 ^ (j - 0) ≡ 2 ^ (j - 1) * 2
      twice zero h = absurd (omega arith)
      twice (suc j) h = ap (λ i. 2 ^ i) (let e : suc j - 0 ≡ suc j = omega arith in e) ∙ pow-suc 2 j ∙ ap (λ i. 2 ^ i * 2) (let e : j ≡ suc j - 1 = omega arith in e)

      after : (n : ℕ) → n < k → 2 ^ (k - n) ≡ 2 ^ (k - (n + 1)) * 2
      after n small = ap (λ i. 2 ^ i) (let e : k - n ≡ suc (k - (n + 1)) = omega arith in e) ∙ pow-suc 2 (k - (n + 1))

module _ {F : Type 0} {p : ℕ} {number : F → ℕ} {residue : ℕ → F} (laws : Residues p number residue) where
  -- what a generator's order rests on: its power that was computed modulo p is p - 1
  pub power_turns : (f x e h : ℕ) → e * h < 2 ^ f → power_modulo p x f (e * h) ≡ p - 1
      → power (residue_ring p number residue) (power (residue_ring p number residue) (residue x) e) h ≡ (residue_ring p number residue).neg (residue_ring p number residue).unit
  power_turns f x e h fits computed =
      sym (power-mul (residue_ring_laws laws) (residue x) e h) ∙ residue-power laws f x (e * h) fits ∙ ap residue computed
      ∙ ap (λ n. residue (p - n)) (sym (number-small laws 1 laws.large))

  -- half doubled is one, as computed modulo p
  pub half_doubled : (h : ℕ) → (h + h) % p ≡ 1 % p → (residue_ring p number residue).add (residue h) (residue h) ≡ (residue_ring p number residue).unit
  half_doubled h computed = residue-add laws h h ∙ same_residue laws (h + h) 1 computed
