-- The gadget of two polynomials as a polynomial.
use Rattle.std.proofs.Common.{◌≡◌, ℕ, zero, suc, ◌+◌, ◌*◌, ◌≤◌, max, List, [], ◌∷◌, ap, ◌∙◌, refl, arith, length}
use Rattle.std.proofs.lemmas.List.{length-replicate}
use Rattle.std.specs.Prelude.{replicate}
use Rattle.field_laws.specs.Ring.{Ring, RingLaws}
use Rattle.field_laws.proofs.Solve.{mul-nought}
use Rattle.field_laws.specs.Polynomial.{eval, add_polynomials, scale, product}
use Rattle.field_laws.proofs.Polynomials.{eval-add, eval-scale, eval-product, eval-constant, length-add, length-scale}
use Rattle.flp_circuits.specs.Shape.{Quadratic, quadratic_at}

module _ {F : Type 0} (ring : Ring F) where
  abbrev pub quadratic_polynomial : Quadratic F → List F → List F → List F
  quadratic_polynomial q p r =
      add_polynomials ring (scale ring q.first_second (product ring p r))
      (add_polynomials ring (scale ring q.first_first (product ring p p))
      (add_polynomials ring (scale ring q.second_second (product ring r r))
      (add_polynomials ring (scale ring q.first p) (add_polynomials ring (scale ring q.second r) (q.constant ∷ [])))))

  noughts : ℕ → List F
  noughts n = replicate n ring.nought

  -- with n coefficients, the last ones nought
  abbrev pub padded : ℕ → List F → List F
  padded n p = add_polynomials ring p (replicate n ring.nought)

  product_bound : (p q : List F) → length (product ring p q) + 1 ≤ length p + max 1 (length q)
  unfolding product
  product_bound [] q = omega arith
  product_bound (a ∷ p) q = omega (arith, length-add ring (scale ring a q) (ring.nought ∷ product ring p q), length-scale ring a q, product_bound p q)

  length-product-le : (p q : List F) (n : ℕ) → 1 ≤ n → length p ≤ n → length q ≤ n → length (product ring p q) + 1 ≤ 2 * n
  length-product-le p q n above short other = omega (arith, product_bound p q)

  pub length-quadratic : (q : Quadratic F) (p r : List F) (n : ℕ) → 1 ≤ n → length p ≤ n → length r ≤ n → length (quadratic_polynomial q p r) + 1 ≤ 2 * n
  length-quadratic q p r n above short other =
      omega (
        arith,
        length-add ring (scale ring q.first_second (product ring p r))
            (add_polynomials ring (scale ring q.first_first (product ring p p))
            (add_polynomials ring (scale ring q.second_second (product ring r r))
            (add_polynomials ring (scale ring q.first p) (add_polynomials ring (scale ring q.second r) (q.constant ∷ []))))),
        length-add ring (scale ring q.first_first (product ring p p))
            (add_polynomials ring (scale ring q.second_second (product ring r r))
            (add_polynomials ring (scale ring q.first p) (add_polynomials ring (scale ring q.second r) (q.constant ∷ [])))),
        length-add ring (scale ring q.second_second (product ring r r))
            (add_polynomials ring (scale ring q.first p) (add_polynomials ring (scale ring q.second r) (q.constant ∷ []))),
        length-add ring (scale ring q.first p) (add_polynomials ring (scale ring q.second r) (q.constant ∷ [])),
        length-add ring (scale ring q.second r) (q.constant ∷ []),
        length-scale ring q.first_second (product ring p r),
        length-scale ring q.first_first (product ring p p),
        length-scale ring q.second_second (product ring r r),
        length-scale ring q.first p,
        length-scale ring q.second r,
        length-product-le p r n above short other,
        length-product-le p p n above short short,
        length-product-le r r n above other other,
      )

module _ {F : Type 0} {ring : Ring F} (laws : RingLaws ring) where
  pub eval-quadratic : (q : Quadratic F) (p r : List F) (x : F) → eval ring (quadratic_polynomial ring q p r) x ≡ quadratic_at ring q (eval ring p x) (eval ring r x)
  eval-quadratic q p r x = simp (eval-add laws, eval-scale laws, eval-product laws, eval-constant laws)

  eval-noughts : (n : ℕ) (x : F) → eval ring (replicate n ring.nought) x ≡ ring.nought
  unfolding eval
  eval-noughts zero x = refl
  eval-noughts (suc n) x = ap (λ y. ring.add ring.nought (ring.mul x y)) (eval-noughts n x) ∙ ap (ring.add ring.nought) (mul-nought laws [] x) ∙ laws.add-nought ring.nought

  pub eval-padded : (n : ℕ) (p : List F) (x : F) → eval ring (padded ring n p) x ≡ eval ring p x
  eval-padded n p x = eval-add laws p (replicate n ring.nought) x ∙ ap (ring.add (eval ring p x)) (eval-noughts n x) ∙ laws.add-nought _

  pub length-padded : (n : ℕ) (p : List F) → length p ≤ n → length (padded ring n p) ≡ n
  length-padded n p short = length-add ring p (replicate n ring.nought) ∙ (let e : max (length p) (length (replicate n ring.nought)) ≡ n = omega (arith, length-replicate n ring.nought) in e)
