-- Laws of sums over the numbers below n.
use Rattle.std.proofs.Common.{◌≡◌, ◌≢◌, ℕ, zero, suc, ◌+◌, ◌-◌, ◌<◌, List, [], ◌∷◌, sym, ap, ◌∙◌, refl, arith, get_or, length}
use Rattle.field_laws.specs.Ring.{Ring, RingLaws, power}
use Rattle.field_laws.proofs.Solve.{at, plus, times, solve, nought-add, mul-nought}
use Rattle.field_laws.proofs.Powers.{power-zero, power-suc}
use Rattle.field_laws.specs.Sums.{sum_to}
use Rattle.field_laws.specs.Polynomial.{eval}

module _ {F : Type 0} {ring : Ring F} (laws : RingLaws ring) where
  pub sum-zero : (f : ℕ → F) → sum_to ring 0 f ≡ ring.nought
  unfolding sum_to
  sum-zero f = refl

  pub sum-suc : (n : ℕ) (f : ℕ → F) → sum_to ring (suc n) f ≡ ring.add (sum_to ring n f) (f n)
  unfolding sum_to
  sum-suc n f = refl

  pub sum_same : (n : ℕ) (f g : ℕ → F) → ((i : ℕ) → i < n → f i ≡ g i) → sum_to ring n f ≡ sum_to ring n g
  unfolding sum_to
  sum_same zero f g h = refl
  sum_same (suc n) f g h = ap (λ x. ring.add x (f n)) (sum_same n f g (λ i k. h i (omega arith))) ∙ ap (ring.add (sum_to ring n g)) (h n (omega arith))

  pub sum_nought : (n : ℕ) (f : ℕ → F) → ((i : ℕ) → i < n → f i ≡ ring.nought) → sum_to ring n f ≡ ring.nought
  unfolding sum_to
  sum_nought zero f h = refl
  sum_nought (suc n) f h = ap (ring.add (sum_to ring n f)) (h n (omega arith)) ∙ laws.add-nought _ ∙ sum_nought n f (λ i k. h i (omega arith))

  pub sum_add : (n : ℕ) (f g : ℕ → F) → sum_to ring n (λ i. ring.add (f i) (g i)) ≡ ring.add (sum_to ring n f) (sum_to ring n g)
  unfolding sum_to
  sum_add zero f g = sym (laws.add-nought ring.nought)
  sum_add (suc n) f g =
      ap (λ x. ring.add x (ring.add (f n) (g n))) (sum_add n f g)
      ∙ solve laws (sum_to ring n f ∷ (sum_to ring n g ∷ (f n ∷ (g n ∷ [])))) (plus (plus (at 0) (at 1)) (plus (at 2) (at 3))) (plus (plus (at 0) (at 2)) (plus (at 1) (at 3))) refl

  pub sum_scale : (n : ℕ) (c : F) (f : ℕ → F) → ring.mul c (sum_to ring n f) ≡ sum_to ring n (λ i. ring.mul c (f i))
  unfolding sum_to
  sum_scale zero c f = mul-nought laws [] c
  sum_scale (suc n) c f = laws.mul-add c (sum_to ring n f) (f n) ∙ ap (λ x. ring.add x (ring.mul c (f n))) (sum_scale n c f)

  pub sum_swap : (m n : ℕ) (f : ℕ → ℕ → F) → sum_to ring m (λ i. sum_to ring n (f i)) ≡ sum_to ring n (λ j. sum_to ring m (λ i. f i j))
  unfolding sum_to
  sum_swap zero n f = sym (sum_nought n _ (λ i h. refl))
  sum_swap (suc m) n f = ap (λ x. ring.add x (sum_to ring n (f m))) (sum_swap m n f) ∙ sym (sum_add n (λ j. sum_to ring m (λ i. f i j)) (f m))

  -- the first term apart
  pub sum_first : (n : ℕ) (f : ℕ → F) → sum_to ring (suc n) f ≡ ring.add (f 0) (sum_to ring n (λ i. f (suc i)))
  unfolding sum_to
  sum_first zero f = laws.add_comm ring.nought (f 0)
  sum_first (suc n) f = ap (λ x. ring.add x (f (suc n))) (sum_first n f) ∙ laws.add_assoc (f 0) _ _

  pub sum_split : (m n : ℕ) (f : ℕ → F) → sum_to ring (m + n) f ≡ ring.add (sum_to ring m f) (sum_to ring n (λ i. f (m + i)))
  sum_split m zero f = ap (λ k. sum_to ring k f) (let e : m + 0 ≡ m = omega arith in e) ∙ sym (laws.add-nought _) ∙ ap (ring.add (sum_to ring m f)) (sym (sum-zero (λ i. f (m + i))))
  sum_split m (suc n) f =
      ap (λ k. sum_to ring k f) (let e : m + suc n ≡ suc (m + n) = omega arith in e) ∙ sum-suc (m + n) f ∙ ap (λ x. ring.add x (f (m + n))) (sum_split m n f) ∙ laws.add_assoc _ _ _
      ∙ ap (ring.add (sum_to ring m f)) (sym (sum-suc n (λ i. f (m + i))))

  -- only one term is not nought
  pub sum_only : (n k : ℕ) (f : ℕ → F) → k < n → ((i : ℕ) → i < n → i ≢ k → f i ≡ ring.nought) → sum_to ring n f ≡ f k
  sum_only n k f h others =
      ap (λ m. sum_to ring m f) (let e : n ≡ k + suc (n - suc k) = omega arith in e)
      ∙ sum_split k (suc (n - suc k)) f
      ∙ ap (λ x. ring.add x (sum_to ring (suc (n - suc k)) (λ i. f (k + i)))) (sum_nought k f (λ i small. others i (omega arith) (omega arith)))
      ∙ nought-add laws [] _
      ∙ sum_first (n - suc k) (λ i. f (k + i))
      ∙ ap (ring.add (f (k + 0))) (sum_nought (n - suc k) (λ i. f (k + suc i)) (λ i small. others (k + suc i) (omega arith) (omega arith)))
      ∙ laws.add-nought _
      ∙ ap f (let e : k + 0 ≡ k = omega arith in e)

  -- a polynomial's value as a sum
  pub eval_is_sum : (p : List F) (x : F) → eval ring p x ≡ sum_to ring (length p) (λ i. ring.mul (get_or p i ring.nought) (power ring x i))
  unfolding eval
  eval_is_sum [] x = sym (sum-zero _)
  eval_is_sum (a ∷ p) x =
      ap (λ y. ring.add a (ring.mul x y)) (eval_is_sum p x)
      ∙ ap (ring.add a) (sum_scale (length p) x _ ∙ sum_same (length p) _ (λ i. ring.mul (get_or p i ring.nought) (power ring x (suc i)))
      (λ i h. solve laws (x ∷ (get_or p i ring.nought ∷ (power ring x i ∷ []))) (times (at 0) (times (at 1) (at 2))) (times (at 1) (times (at 0) (at 2))) refl ∙ ap (ring.mul (get_or p i ring.nought)) (sym (power-suc laws x i))))
      ∙ ap (λ y. ring.add y (sum_to ring (length p) (λ i. ring.mul (get_or p i ring.nought) (power ring x (suc i))))) (sym (laws.mul-unit a) ∙ ap (ring.mul a) (sym (power-zero laws x)))
      ∙ sym (sum_first (length p) (λ i. ring.mul (get_or (a ∷ p) i ring.nought) (power ring x i)))
