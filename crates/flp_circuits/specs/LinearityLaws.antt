-- Lemmas: weighted sums are linear, and what gadgets compute.
use Rattle.std.proofs.Common.{◌≡◌, ℕ, ◌<◌, ◌⊎◌, inl, inr, List, [], ◌∷◌, sym, ap, ◌∙◌, refl, get_or}
use Rattle.field_laws.specs.Ring.{Ring, RingLaws, minus}
use Rattle.field_laws.proofs.Solve.{at, one, none, plus, times, solve, mul-nought, neg-by_unit}
use Rattle.field_laws.specs.Polynomial.{add_polynomials, scale}
use Rattle.field_laws.proofs.Sums.{sum_same, sum_add, sum_scale, sum_nought}
use Rattle.field_laws.proofs.Polynomials.{get_or-add, get_or-scale}
use Rattle.flp_circuits.specs.Shape.{quadratic_at}
use Rattle.flp_circuits.specs.Kinds.{product_form, bit_form, weighted, total}

module _ {F : Type 0} {ring : Ring F} (laws : RingLaws ring) where
  pub one_entry : (a b : F) → add_polynomials ring (a ∷ []) (b ∷ []) ≡ ring.add a b ∷ []
  unfolding add_polynomials
  one_entry a b = refl

  pub weighted-same : (v w : ℕ → F) (n : ℕ) (xs : List F) → ((i : ℕ) → v i ≡ w i) → weighted ring v n xs ≡ weighted ring w n xs
  unfolding weighted
  weighted-same v w n xs same = sum_same laws n _ _ (λ i small. ap (λ a. ring.mul a (get_or xs i ring.nought)) (same i))

  -- it sees the first n entries alone
  pub weighted-entries : (w : ℕ → F) (n : ℕ) (xs ys : List F) → ((i : ℕ) → i < n → get_or xs i ring.nought ≡ get_or ys i ring.nought) → weighted ring w n xs ≡ weighted ring w n ys
  unfolding weighted
  weighted-entries w n xs ys same = sum_same laws n _ _ (λ i small. ap (ring.mul (w i)) (same i small))

  pub weighted-add : (w : ℕ → F) (n : ℕ) (xs ys : List F) → weighted ring w n (add_polynomials ring xs ys) ≡ ring.add (weighted ring w n xs) (weighted ring w n ys)
  unfolding weighted
  weighted-add w n xs ys =
      sum_same laws n _ (λ i. ring.add (ring.mul (w i) (get_or xs i ring.nought)) (ring.mul (w i) (get_or ys i ring.nought)))
      (λ i small. ap (ring.mul (w i)) (get_or-add laws xs ys i) ∙ laws.mul-add _ _ _)
      ∙ sum_add laws n _ _

  pub weighted-scale : (s : F) (w : ℕ → F) (n : ℕ) (xs : List F) → weighted ring w n (scale ring s xs) ≡ ring.mul s (weighted ring w n xs)
  unfolding weighted
  weighted-scale s w n xs =
      sum_same laws n _ (λ i. ring.mul s (ring.mul (w i) (get_or xs i ring.nought)))
      (λ i small. ap (ring.mul (w i)) (get_or-scale laws s xs i)
      ∙ solve laws (s ∷ (w i ∷ (get_or xs i ring.nought ∷ []))) (times (at 1) (times (at 0) (at 2))) (times (at 0) (times (at 1) (at 2))) refl)
      ∙ sym (sum_scale laws n s _)

  pub weighted-noughts : (w : ℕ → F) (n : ℕ) (xs : List F) → ((i : ℕ) → i < n → get_or xs i ring.nought ≡ ring.nought) → weighted ring w n xs ≡ ring.nought
  unfolding weighted
  weighted-noughts w n xs noughts = sum_nought laws n _ (λ i small. ap (ring.mul (w i)) (noughts i small) ∙ mul-nought laws [] _)

  pub total-add : (n : ℕ) (xs ys : List F) → total ring n (add_polynomials ring xs ys) ≡ ring.add (total ring n xs) (total ring n ys)
  unfolding total
  total-add n xs ys = sum_same laws n _ (λ i. ring.add (get_or xs i ring.nought) (get_or ys i ring.nought)) (λ i small. get_or-add laws xs ys i) ∙ sum_add laws n _ _

  pub total-scale : (s : F) (n : ℕ) (xs : List F) → total ring n (scale ring s xs) ≡ ring.mul s (total ring n xs)
  unfolding total
  total-scale s n xs = sum_same laws n _ (λ i. ring.mul s (get_or xs i ring.nought)) (λ i small. get_or-scale laws s xs i) ∙ sym (sum_scale laws n s _)

  pub product_gadget : (a b : F) → ring.mul a b ≡ quadratic_at ring (product_form ring) a b
  product_gadget a b =
      solve laws (a ∷ (b ∷ [])) (times (at 0) (at 1))
      (plus (times one (times (at 0) (at 1))) (plus (times none (times (at 0) (at 0))) (plus (times none (times (at 1) (at 1))) (plus (times none (at 0)) (plus (times none (at 1)) none))))) refl

  pub bit_gadget : (a b : F) → minus ring (ring.mul a a) a ≡ quadratic_at ring (bit_form ring) a b
  bit_gadget a b =
      ap (ring.add (ring.mul a a)) (neg-by_unit laws [] a)
      ∙ solve laws (a ∷ (b ∷ (ring.neg ring.unit ∷ []))) (plus (times (at 0) (at 0)) (times (at 2) (at 0)))
      (plus (times none (times (at 0) (at 1))) (plus (times one (times (at 0) (at 0))) (plus (times none (times (at 1) (at 1))) (plus (times (at 2) (at 0)) (plus (times none (at 1)) none))))) refl

  -- the bit gadget is nought at the two bits
  pub bit-vanishes : (a : F) → (a ≡ ring.nought) ⊎ (a ≡ ring.unit) → minus ring (ring.mul a a) a ≡ ring.nought
  bit-vanishes a (inl e) = ap (λ x. minus ring (ring.mul x x) x) e ∙ ap (λ x. minus ring x ring.nought) (mul-nought laws [] ring.nought) ∙ laws.add-neg ring.nought
  bit-vanishes a (inr e) = ap (λ x. minus ring (ring.mul x x) x) e ∙ ap (λ x. minus ring x ring.unit) (laws.mul-unit ring.unit) ∙ laws.add-neg ring.unit
