-- The transform of the values, scaled and reversed round behind the first, is the interpolation.
use Rattle.std.proofs.Common.{◌≡◌, ℕ, zero, suc, ◌+◌, ◌-◌, ◌^◌, ◌<◌, ◌≤◌, List, sym, ap, ◌∙◌, arith, get_or, length, map}
use Rattle.std.proofs.lemmas.Nat.{pow_pos}
use Rattle.std.proofs.lemmas.List.{get_or-map}
use Rattle.std.proofs.lemmas.List.FromFn.{length-map-range_with_len, get_or-map-range_with_len, fill_by_all}
use Rattle.field_laws.specs.Ring.{Ring, RingLaws, RootLaws, power}
use Rattle.field_laws.proofs.Powers.{power-zero, power-suc, power-add, power-of_mul, power-of_unit}
use Rattle.field_laws.specs.Polynomial.{eval}
use Rattle.field_laws.specs.Interpolation.{coefficient, Interpolates}
use Rattle.field_laws.proofs.Interpolation.{roots_at, interpolation_exact}
use Rattle.poly_ntt.specs.Transform.{values_at_powers, ReversesRest}

module _ {F : Type 0} {ring : Ring F} (laws : RingLaws ring) where
  one_inverse : (a b c : F) → ring.mul a b ≡ ring.unit → ring.mul c b ≡ ring.unit → a ≡ c
  one_inverse a b c ab cb =
      sym (laws.mul-unit a) ∙ ap (ring.mul a) (sym cb) ∙ sym (laws.mul_assoc a c b) ∙ ap (λ y. ring.mul y b) (laws.mul_comm a c) ∙ laws.mul_assoc c a b ∙ ap (ring.mul c) ab ∙ laws.mul-unit c

  backward : (x : F) (n k : ℕ) → power ring x n ≡ ring.unit → ring.mul (power ring x (n - 1)) x ≡ ring.unit → k ≤ n → power ring x (n - k) ≡ power ring (power ring x (n - 1)) k
  backward x n k whole inverse few =
      one_inverse (power ring x (n - k)) (power ring x k) (power ring (power ring x (n - 1)) k)
      (sym (power-add laws x (n - k) k) ∙ ap (power ring x) (let e : n - k + k ≡ n = omega arith in e) ∙ whole)
      (sym (power-of_mul laws (power ring x (n - 1)) x k) ∙ ap (λ y. power ring y k) inverse ∙ power-of_unit laws k)

  pub inverse_is : (h : F) (root : ℕ → F) (log : ℕ) (values made : List F) → ring.add h h ≡ ring.unit → RootLaws ring 16 root → log ≤ 16 → length values ≡ 2 ^ log
      → ReversesRest ring.nought (2 ^ log) (map (ring.mul (power ring h log)) (values_at_powers ring (root log) (2 ^ log) values)) made
      → Interpolates ring (root log) values made
  unfolding coefficient
  inverse_is h root log values made halves roots few size round =
      let n : ℕ = 2 ^ log in
      let x : F = root log in
      let y : F = power ring x (n - 1) in
      let pair = roots_at laws h 16 root log halves roots few in
      let some : 0 < n = pow_pos log in
      let whole : power ring x n ≡ ring.unit = ap (power ring x) (let e : n ≡ suc (n - 1) = omega (arith, some) in e) ∙ power-suc laws x (n - 1) ∙ laws.mul_comm x y ∙ pair.inverse in
      subst_list values made (root log)
      (fill_by_all (coefficient ring h y log values) made n ring.nought round.size
      (λ k small. entry h x values made log n round whole pair.inverse k small))
      (interpolation_exact laws h x y log values pair size)
    where
      subst_list : (values made : List F) (x : F) {q : List F} → made ≡ q → Interpolates ring x values q → Interpolates ring x values made
      subst_list values made x e i = record { size = ap length e ∙ i.size; value = λ k small. ap (λ l. eval ring l (power ring x k)) e ∙ i.value k small }

      read : (h x : F) (values : List F) (log n k : ℕ) → k < n → get_or (map (ring.mul (power ring h log)) (values_at_powers ring x n values)) k ring.nought ≡ ring.mul (power ring h log) (eval ring values (power ring x k))
      read h x values log n k small =
          get_or-map (ring.mul (power ring h log)) (values_at_powers ring x n values) k ring.nought ring.nought (omega (arith, length-map-range_with_len (λ k. eval ring values (power ring x k)) 0 n))
          ∙ ap (ring.mul (power ring h log)) (get_or-map-range_with_len (λ k. eval ring values (power ring x k)) 0 n k k ring.nought small (omega arith))

      entry : (h x : F) (values made : List F) (log n : ℕ) → ReversesRest ring.nought n (map (ring.mul (power ring h log)) (values_at_powers ring x n values)) made → power ring x n ≡ ring.unit
          → ring.mul (power ring x (n - 1)) x ≡ ring.unit → (k : ℕ) → k < n → get_or made k ring.nought ≡ ring.mul (power ring h log) (eval ring values (power ring (power ring x (n - 1)) k))
      entry h x values made log n round whole inverse zero small =
          round.first ∙ read h x values log n 0 small ∙ ap (λ p. ring.mul (power ring h log) (eval ring values p)) (power-zero laws x ∙ sym (power-zero laws (power ring x (n - 1))))
      entry h x values made log n round whole inverse (suc k) small =
          round.others (suc k) (omega arith) small ∙ read h x values log n (n - suc k) (omega arith)
          ∙ ap (λ p. ring.mul (power ring h log) (eval ring values p)) (backward x n (suc k) whole inverse (omega arith))
