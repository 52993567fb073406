-- Negatives and differences in a ring.
use Rattle.std.proofs.Common.{◌≡◌, [], ◌∷◌, sym, ap, ◌∙◌, refl}
use Rattle.field_laws.specs.Ring.{Ring, RingLaws, minus}
use Rattle.field_laws.proofs.Solve.{at, plus, times, solve, mul-nought, cancel, neg-by_unit}

module _ {F : Type 0} {ring : Ring F} (laws : RingLaws ring) where
  pub neg-unique : (a b : F) → ring.add a b ≡ ring.nought → b ≡ ring.neg a
  neg-unique a b e = cancel laws [] a b (ring.neg a) (e ∙ sym (laws.add-neg a))

  pub neg-mul : (a b : F) → ring.neg (ring.mul a b) ≡ ring.mul a (ring.neg b)
  neg-mul a b = sym (neg-unique (ring.mul a b) (ring.mul a (ring.neg b)) (sym (laws.mul-add a b (ring.neg b)) ∙ ap (ring.mul a) (laws.add-neg b) ∙ mul-nought laws [] a))

  pub minus-add : (a b c d : F) → minus ring (ring.add a b) (ring.add c d) ≡ ring.add (minus ring a c) (minus ring b d)
  minus-add a b c d =
      ap (ring.add (ring.add a b)) (neg-by_unit laws [] (ring.add c d))
      ∙ solve laws (a ∷ (b ∷ (c ∷ (d ∷ (ring.neg ring.unit ∷ []))))) (plus (plus (at 0) (at 1)) (times (at 4) (plus (at 2) (at 3)))) (plus (plus (at 0) (times (at 4) (at 2))) (plus (at 1) (times (at 4) (at 3)))) refl
      ∙ ap (λ x. ring.add (ring.add a x) (ring.add b (ring.mul (ring.neg ring.unit) d))) (sym (neg-by_unit laws [] c)) ∙ ap (λ x. ring.add (ring.add a (ring.neg c)) (ring.add b x)) (sym (neg-by_unit laws [] d))

  pub minus-scale : (s a c : F) → minus ring (ring.mul s a) (ring.mul s c) ≡ ring.mul s (minus ring a c)
  minus-scale s a c = ap (ring.add (ring.mul s a)) (neg-mul s c) ∙ sym (laws.mul-add s a (ring.neg c))

  -- a difference and what was taken away
  pub add-minus : (a b : F) → ring.add (minus ring a b) b ≡ a
  add-minus a b = laws.add_assoc a (ring.neg b) b ∙ ap (ring.add a) (laws.add_comm (ring.neg b) b ∙ laws.add-neg b) ∙ laws.add-nought a
