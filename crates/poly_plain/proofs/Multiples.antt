-- A product made row by row, from the last coefficient on.
use Rattle.std.proofs.Common.{◌≡◌, ℕ, zero, suc, ◌-◌, ◌<◌, ◌≤◌, List, [], ◌∷◌, ◌++◌, sym, ap, ◌∙◌, refl, arith, get_or, length, take, set}
use Rattle.std.specs.Prelude.{replicate}
use Rattle.field_laws.specs.Ring.{Ring, RingLaws}
use Rattle.field_laws.specs.Polynomial.{add_polynomials, scale, product}
use Rattle.field_laws.proofs.Polynomials.{length-scale}

-- product, with base under the last row
unfoldable pub product_over : {F : Type 0} → Ring F → List F → List F → List F → List F
product_over ring base [] q = base
product_over ring base (a ∷ p) q = add_polynomials ring (scale ring a q) (ring.nought ∷ product_over ring base p q)

module _ {F : Type 0} {ring : Ring F} (laws : RingLaws ring) where
  add-noughts : (p : List F) (n : ℕ) → n ≤ length p → add_polynomials ring p (replicate n ring.nought) ≡ p
  unfolding add_polynomials
  add-noughts [] zero h = refl
  add-noughts [] (suc n) h = absurd (omega arith)
  add-noughts (a ∷ p) zero h = refl
  add-noughts (a ∷ p) (suc n) h = ap (λ x. x ∷ add_polynomials ring p (replicate n ring.nought)) (laws.add-nought a) ∙ ap (λ l. a ∷ l) (add-noughts p n (omega arith))

  -- under enough noughts it is the product
  pub product_over_noughts : (p q : List F) → 0 < length p → 0 < length q → product_over ring (replicate (length q - 1) ring.nought) p q ≡ product ring p q
  unfolding product_over product
  product_over_noughts [] q some other = absurd (omega arith)
  product_over_noughts (a ∷ []) q some other =
      ap (λ l. add_polynomials ring (scale ring a q) l) (ap (λ n. replicate n ring.nought) (let e : suc (length q - 1) ≡ length q = omega arith in e))
      ∙ add-noughts (scale ring a q) (length q) (omega (arith, length-scale ring a q))
      ∙ sym (add-noughts (scale ring a q) 1 (omega (arith, length-scale ring a q)))
  product_over_noughts (a ∷ (b ∷ p)) q some other = ap (λ l. add_polynomials ring (scale ring a q) (ring.nought ∷ l)) (product_over_noughts (b ∷ p) q (omega arith) other)

  -- the row of the last coefficient, made
  pub product_over-row : (base p q : List F) (a : F) → product_over ring base (p ++ a ∷ []) q ≡ product_over ring (add_polynomials ring (scale ring a q) (ring.nought ∷ base)) p q
  unfolding product_over
  product_over-row base [] q a = refl
  product_over-row base (b ∷ p) q a = ap (λ l. add_polynomials ring (scale ring b q) (ring.nought ∷ l)) (product_over-row base p q a)

  -- one more coefficient of a multiple that is added in place
  pub add_multiple-step : (c : F) (q t : List F) (j : ℕ) → j < length q → j < length t
      → set (add_polynomials ring (scale ring c (take j q)) t) j (ring.add (ring.mul c (get_or q j ring.nought)) (get_or (add_polynomials ring (scale ring c (take j q)) t) j ring.nought))
      ≡ add_polynomials ring (scale ring c (take (suc j) q)) t
  unfolding add_polynomials
  add_multiple-step c [] t j inside within = absurd (omega arith)
  add_multiple-step c (x ∷ q) [] j inside within = absurd (omega arith)
  add_multiple-step c (x ∷ q) (y ∷ t) zero inside within = refl
  add_multiple-step c (x ∷ q) (y ∷ t) (suc j) inside within = ap (λ l. ring.add (ring.mul c x) y ∷ l) (add_multiple-step c q t j (omega arith) (omega arith))
