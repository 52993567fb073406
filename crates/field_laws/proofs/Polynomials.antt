-- Sums, multiples and products of polynomials: values, coefficients and lengths.
use Rattle.std.proofs.Common.{◌≡◌, ℕ, zero, suc, ◌+◌, ◌<◌, max, List, [], ◌∷◌, ◌++◌, sym, ap, ◌∙◌, refl, arith, get_or, length, map, drop}
use Rattle.field_laws.specs.Ring.{Ring, RingLaws}
use Rattle.field_laws.proofs.Solve.{at, none, plus, times, solve, nought-add, mul-nought, nought-mul}
use Rattle.field_laws.specs.Vector.{add_elements}
use Rattle.field_laws.specs.Polynomial.{eval, add_polynomials, scale, product}

module _ {F : Type 0} {ring : Ring F} (laws : RingLaws ring) where
  pub eval-add : (p q : List F) (x : F) → eval ring (add_polynomials ring p q) x ≡ ring.add (eval ring p x) (eval ring q x)
  unfolding eval add_polynomials
  eval-add [] q x = sym (nought-add laws [] _)
  eval-add (a ∷ p) [] x = sym (laws.add-nought _)
  eval-add (a ∷ p) (b ∷ q) x =
      ap (λ y. ring.add (ring.add a b) (ring.mul x y)) (eval-add p q x)
      ∙ solve laws (a ∷ (b ∷ (x ∷ (eval ring p x ∷ (eval ring q x ∷ []))))) (plus (plus (at 0) (at 1)) (times (at 2) (plus (at 3) (at 4)))) (plus (plus (at 0) (times (at 2) (at 3))) (plus (at 1) (times (at 2) (at 4)))) refl

  pub eval-scale : (c : F) (p : List F) (x : F) → eval ring (scale ring c p) x ≡ ring.mul c (eval ring p x)
  unfolding eval
  eval-scale c [] x = sym (mul-nought laws [] c)
  eval-scale c (a ∷ p) x =
      ap (λ y. ring.add (ring.mul c a) (ring.mul x y)) (eval-scale c p x)
      ∙ solve laws (a ∷ (c ∷ (x ∷ (eval ring p x ∷ [])))) (plus (times (at 1) (at 0)) (times (at 2) (times (at 1) (at 3)))) (times (at 1) (plus (at 0) (times (at 2) (at 3)))) refl

  pub eval-product : (p q : List F) (x : F) → eval ring (product ring p q) x ≡ ring.mul (eval ring p x) (eval ring q x)
  unfolding eval product
  eval-product [] q x = sym (nought-mul laws [] _)
  eval-product (a ∷ p) q x =
      eval-add (scale ring a q) (ring.nought ∷ product ring p q) x
      ∙ ap (λ y. ring.add y (ring.add ring.nought (ring.mul x (eval ring (product ring p q) x)))) (eval-scale a q x)
      ∙ ap (λ y. ring.add (ring.mul a (eval ring q x)) (ring.add ring.nought (ring.mul x y))) (eval-product p q x)
      ∙ solve laws (a ∷ (x ∷ (eval ring p x ∷ (eval ring q x ∷ [])))) (plus (times (at 0) (at 3)) (plus none (times (at 1) (times (at 2) (at 3))))) (times (plus (at 0) (times (at 1) (at 2))) (at 3)) refl

  pub eval-constant : (c x : F) → eval ring (c ∷ []) x ≡ c
  unfolding eval
  eval-constant c x = ap (ring.add c) (mul-nought laws [] x) ∙ laws.add-nought c

  -- a further coefficient of nought
  pub eval-push_nought : (p : List F) (x : F) → eval ring (p ++ ring.nought ∷ []) x ≡ eval ring p x
  unfolding eval
  eval-push_nought [] x = eval-constant ring.nought x
  eval-push_nought (a ∷ p) x = ap (λ y. ring.add a (ring.mul x y)) (eval-push_nought p x)

  -- Horner's rule: the last two coefficients, joined
  pub eval-join_last : (p : List F) (a b x : F) → eval ring ((p ++ a ∷ []) ++ b ∷ []) x ≡ eval ring (p ++ ring.add a (ring.mul x b) ∷ []) x
  unfolding eval
  eval-join_last [] a b x = ap (λ y. ring.add a (ring.mul x y)) (eval-constant b x) ∙ sym (eval-constant (ring.add a (ring.mul x b)) x)
  eval-join_last (c ∷ p) a b x = ap (λ y. ring.add c (ring.mul x y)) (eval-join_last p a b x)

  pub get_or-add : (p q : List F) (k : ℕ) → get_or (add_polynomials ring p q) k ring.nought ≡ ring.add (get_or p k ring.nought) (get_or q k ring.nought)
  unfolding add_polynomials
  get_or-add [] q k = sym (nought-add laws [] _)
  get_or-add (a ∷ p) [] k = sym (laws.add-nought _)
  get_or-add (a ∷ p) (b ∷ q) zero = refl
  get_or-add (a ∷ p) (b ∷ q) (suc k) = get_or-add p q k

  pub get_or-scale : (c : F) (p : List F) (k : ℕ) → get_or (scale ring c p) k ring.nought ≡ ring.mul c (get_or p k ring.nought)
  get_or-scale c [] k = sym (mul-nought laws [] c)
  get_or-scale c (a ∷ p) zero = refl
  get_or-scale c (a ∷ p) (suc k) = get_or-scale c p k

  pub map-add : {X : Type 0} (f g : X → F) (xs : List X) → map (λ x. ring.add (f x) (g x)) xs ≡ add_polynomials ring (map f xs) (map g xs)
  unfolding add_polynomials
  map-add f g [] = refl
  map-add f g (x ∷ xs) = ap (λ ys. ring.add (f x) (g x) ∷ ys) (map-add f g xs)

module _ {F : Type 0} (ring : Ring F) where
  pub length-add : (p q : List F) → length (add_polynomials ring p q) ≡ max (length p) (length q)
  unfolding add_polynomials
  length-add [] q = omega arith
  length-add (a ∷ p) [] = omega arith
  length-add (a ∷ p) (b ∷ q) = omega (arith, length-add p q)

  pub length-scale : (c : F) (p : List F) → length (scale ring c p) ≡ length p
  length-scale c [] = refl
  length-scale c (a ∷ p) = ap suc (length-scale c p)

  pub length-product : (p q : List F) → 0 < length p → 0 < length q → length (product ring p q) + 1 ≡ length p + length q
  unfolding product
  length-product [] q above other = absurd (omega arith)
  length-product (a ∷ []) q above other =
      omega (arith, length-add (scale ring a q) (ring.nought ∷ []), length-scale a q)
  length-product (a ∷ (b ∷ p)) q above other =
      omega (arith, length-add (scale ring a q) (ring.nought ∷ product ring (b ∷ p) q), length-scale a q, length-product (b ∷ p) q (omega arith) other)

  pub drop-add : (n : ℕ) (p q : List F) → drop n (add_polynomials ring p q) ≡ add_polynomials ring (drop n p) (drop n q)
  unfolding add_polynomials
  drop-add zero p q = refl
  drop-add (suc n) [] q = refl
  drop-add (suc n) (a ∷ p) [] = elim (drop n p) as (λ d. d ≡ add_polynomials ring d []) [ [] ↦ refl | x ∷ xs ↦ refl ]
  drop-add (suc n) (a ∷ p) (b ∷ q) = drop-add n p q

  -- the sum of vectors of one length is the sum of polynomials
  pub add_elements-same_length : (p q : List F) → length p ≡ length q → add_elements ring p q ≡ add_polynomials ring p q
  unfolding add_elements add_polynomials
  add_elements-same_length [] [] e = refl
  add_elements-same_length [] (b ∷ q) e = absurd (omega arith)
  add_elements-same_length (a ∷ p) [] e = absurd (omega arith)
  add_elements-same_length (a ∷ p) (b ∷ q) e = ap (λ l. ring.add a b ∷ l) (add_elements-same_length p q (omega arith))
