-- Interpolation at the powers of a root is exact, and its answer is the only one.
use Rattle.std.proofs.Common.{◌≡◌, ◌≢◌, ℕ, zero, suc, ◌+◌, ◌-◌, ◌^◌, ◌<◌, ◌≤◌, ◌⊎◌, inl, inr, List, [], ◌∷◌, sym, ap, ◌∙◌, refl, arith, get_or, length, map}
use Rattle.std.proofs.Math.Nat.{pow-suc, mul_comm}
use Rattle.std.specs.List.{range_with_len}
use Rattle.std.proofs.lemmas.Bool.{cases_lt}
use Rattle.std.proofs.lemmas.Nat.{pow_pos}
use Rattle.std.proofs.lemmas.List.FromFn.{length-map-range_with_len, get_or-map-range_with_len, fill_by_all}
use Rattle.field_laws.specs.Ring.{Ring, RingLaws, RootLaws, power}
use Rattle.field_laws.proofs.Solve.{at, times, solve, unit-mul, mul-nought}
use Rattle.field_laws.proofs.Powers.{power-suc, power-one, power-add, power-mul, power-two, power-of_mul, power-of_unit}
use Rattle.field_laws.proofs.Compute.{neg-unit_square}
use Rattle.field_laws.specs.Sums.{sum_to}
use Rattle.field_laws.specs.Polynomial.{eval, add_polynomials}
use Rattle.field_laws.specs.Interpolation.{coefficient, interpolation, Interpolates}
use Rattle.field_laws.proofs.Polynomials.{eval-add, map-add}
use Rattle.field_laws.proofs.Sums.{sum_same, sum_scale, sum_swap, sum_only, eval_is_sum}
use Rattle.field_laws.proofs.Roots.{powers_vanish, halved}

-- x and y are inverse roots of order 2 ^ log, and h is half of one
pub record Roots {F : Type 0} (ring : Ring F) (h x y : F) (log : ℕ) : Type 0 where
  pub halves : ring.add h h ≡ ring.unit
  pub inverse : ring.mul y x ≡ ring.unit
  pub turns : (m : ℕ) → log ≡ suc m → power ring x (2 ^ m) ≡ ring.neg ring.unit

module _ {F : Type 0} {ring : Ring F} (laws : RingLaws ring) where
  power_swap : (y : F) (i j : ℕ) → power ring (power ring y j) i ≡ power ring (power ring y i) j
  power_swap y i j = sym (power-mul laws y j i) ∙ ap (power ring y) (mul_comm j i) ∙ power-mul laws y i j

  inverse_powers : (x y : F) (i : ℕ) → ring.mul y x ≡ ring.unit → ring.mul (power ring y i) (power ring x i) ≡ ring.unit
  inverse_powers x y i e = sym (power-of_mul laws y x i) ∙ ap (λ a. power ring a i) e ∙ power-of_unit laws i

  pub turned : (h x y : F) (log : ℕ) → Roots ring h x y log → Roots ring h y x log
  turned h x y log r = record {
    halves = r.halves;
    inverse = laws.mul_comm x y ∙ r.inverse;
    turns = λ m e.
        let a : F = power ring y (2 ^ m) in
        let b : F = ring.neg ring.unit in
        let ab : ring.mul a b ≡ ring.unit = ap (ring.mul a) (sym (r.turns m e)) ∙ inverse_powers x y (2 ^ m) r.inverse in
        sym (laws.mul-unit a) ∙ ap (ring.mul a) (sym (neg-unit_square laws)) ∙ sym (laws.mul_assoc a b b) ∙ ap (λ c. ring.mul c b) ab ∙ unit-mul laws [] b;
  }

  -- y ^ i x ^ (i + d) is x ^ d
  drop_common : (x y : F) (i k : ℕ) → ring.mul y x ≡ ring.unit → i ≤ k → ring.mul (power ring y i) (power ring x k) ≡ power ring x (k - i)
  drop_common x y i k e h =
      ap (λ n. ring.mul (power ring y i) (power ring x n)) (let s : k ≡ i + (k - i) = omega arith in s)
      ∙ ap (ring.mul (power ring y i)) (power-add laws x i (k - i))
      ∙ sym (laws.mul_assoc _ _ _) ∙ ap (λ a. ring.mul a (power ring x (k - i))) (inverse_powers x y i e) ∙ unit-mul laws [] _

  below_vanish : (h x y : F) (log d : ℕ) → Roots ring h x y log → 0 < d → d < 2 ^ log → sum_to ring (2 ^ log) (power ring (power ring x d)) ≡ ring.nought
  below_vanish h x y zero d r above below = absurd (omega arith)
  below_vanish h x y (suc m) d r above below = powers_vanish laws m x d (r.turns m refl) above below

  pub orthogonal : (h x y : F) (log i k : ℕ) → Roots ring h x y log → i < 2 ^ log → k < 2 ^ log → i ≢ k → sum_to ring (2 ^ log) (power ring (ring.mul (power ring y i) (power ring x k))) ≡ ring.nought
  orthogonal h x y log i k r hi hk ne = cases (cases_lt i k)
    where
      cases : (i < k) ⊎ (k ≤ i) → sum_to ring (2 ^ log) (power ring (ring.mul (power ring y i) (power ring x k))) ≡ ring.nought
      cases (inl lt) =
          ap (λ w. sum_to ring (2 ^ log) (power ring w)) (drop_common x y i k r.inverse (omega arith)) ∙ below_vanish h x y log (k - i) r (omega arith) (omega arith)
      cases (inr le) =
          ap (λ w. sum_to ring (2 ^ log) (power ring w)) (laws.mul_comm (power ring y i) (power ring x k) ∙ drop_common y x k i (turned h x y log r).inverse le)
          ∙ below_vanish h y x log (i - k) (turned h x y log r) (omega arith) (omega arith)

  -- the transform with y and then the one with x give the values back
  pub round : (h x y : F) (log : ℕ) (v : ℕ → F) (k : ℕ) → Roots ring h x y log → k < 2 ^ log
      → ring.mul (power ring h log) (sum_to ring (2 ^ log) (λ j. ring.mul (sum_to ring (2 ^ log) (λ i. ring.mul (v i) (power ring (power ring y j) i))) (power ring (power ring x k) j))) ≡ v k
  round h x y log v k r small =
      let n : ℕ = 2 ^ log in
      let w : ℕ → F = λ i. ring.mul (power ring y i) (power ring x k) in
      let inner : (j : ℕ) → ring.mul (sum_to ring n (λ i. ring.mul (v i) (power ring (power ring y j) i))) (power ring (power ring x k) j) ≡ sum_to ring n (λ i. ring.mul (v i) (power ring (w i) j)) =
      λ j. laws.mul_comm _ _ ∙ sum_scale laws n (power ring (power ring x k) j) _
      ∙ sum_same laws n _ (λ i. ring.mul (v i) (power ring (w i) j)) (λ i hi.
      solve laws (power ring (power ring x k) j ∷ (v i ∷ (power ring (power ring y j) i ∷ []))) (times (at 0) (times (at 1) (at 2))) (times (at 1) (times (at 2) (at 0))) refl
      ∙ ap (λ a. ring.mul (v i) (ring.mul a (power ring (power ring x k) j))) (power_swap y i j)
      ∙ ap (ring.mul (v i)) (sym (power-of_mul laws (power ring y i) (power ring x k) j))) in
      ap (ring.mul (power ring h log))
      (sum_same laws n _ (λ j. sum_to ring n (λ i. ring.mul (v i) (power ring (w i) j))) (λ j hj. inner j)
      ∙ sum_swap laws n n (λ j i. ring.mul (v i) (power ring (w i) j))
      ∙ sum_only laws n k (λ i. sum_to ring n (λ j. ring.mul (v i) (power ring (w i) j))) small
      (λ i hi ne. sym (sum_scale laws n (v i) (power ring (w i))) ∙ ap (ring.mul (v i)) (orthogonal h x y log i k r hi small ne) ∙ mul-nought laws [] _)
      ∙ sum_same laws n _ (λ j. v k) (λ j hj. ap (λ a. ring.mul (v k) (power ring a j)) (inverse_powers x y k r.inverse) ∙ ap (ring.mul (v k)) (power-of_unit laws j) ∙ laws.mul-unit (v k)))
      ∙ halved laws h (v k) log r.halves

  sum_at_length : (n m : ℕ) (f : ℕ → F) → n ≡ m → sum_to ring n f ≡ sum_to ring m f
  sum_at_length n m f e = ap (λ k. sum_to ring k f) e

  pub interpolation_exact : (h x y : F) (log : ℕ) (values : List F) → Roots ring h x y log → length values ≡ 2 ^ log → Interpolates ring x values (interpolation ring h y log values)
  unfolding coefficient
  interpolation_exact h x y log values r size = record {
    size = length-map-range_with_len (coefficient ring h y log values) 0 (2 ^ log) ∙ sym size;
    value = λ k small.
        let n : ℕ = 2 ^ log in
        let p : List F = interpolation ring h y log values in
        eval_is_sum laws p (power ring x k)
        ∙ sum_at_length (length p) n _ (length-map-range_with_len (coefficient ring h y log values) 0 n)
        ∙ sum_same laws n _ (λ j. ring.mul (power ring h log) (ring.mul (sum_to ring n (λ i. ring.mul (get_or values i ring.nought) (power ring (power ring y j) i))) (power ring (power ring x k) j)))
        (λ j hj. ap (λ a. ring.mul a (power ring (power ring x k) j))
        (get_or-map-range_with_len (coefficient ring h y log values) 0 n j j ring.nought hj (omega arith)
        ∙ ap (ring.mul (power ring h log)) (eval_is_sum laws values (power ring y j) ∙ sum_at_length (length values) n _ size))
        ∙ laws.mul_assoc _ _ _)
        ∙ sym (sum_scale laws n (power ring h log) _)
        ∙ round h x y log (λ i. get_or values i ring.nought) k r (omega arith);
  }

  pub interpolation_only : (h x y : F) (log : ℕ) (values p : List F) → Roots ring h x y log → length values ≡ 2 ^ log → Interpolates ring x values p → p ≡ interpolation ring h y log values
  unfolding coefficient
  interpolation_only h x y log values p r size meets =
      let n : ℕ = 2 ^ log in
      fill_by_all (coefficient ring h y log values) p n ring.nought (meets.size ∙ size)
      (λ j small. sym (
      ap (ring.mul (power ring h log))
      (eval_is_sum laws values (power ring y j) ∙ sum_at_length (length values) n _ size
      ∙ sum_same laws n _ (λ i. ring.mul (sum_to ring n (λ m. ring.mul (get_or p m ring.nought) (power ring (power ring x i) m))) (power ring (power ring y j) i))
      (λ i hi. ap (λ a. ring.mul a (power ring (power ring y j) i))
      (sym (meets.value i (omega arith)) ∙ eval_is_sum laws p (power ring x i) ∙ sum_at_length (length p) n _ (meets.size ∙ size))))
      ∙ round h y x log (λ m. get_or p m ring.nought) j (turned h x y log r) small))

  -- two polynomials with the same values are equal
  pub interpolation_unique : (h x y : F) (log : ℕ) (values p q : List F) → Roots ring h x y log → length values ≡ 2 ^ log → Interpolates ring x values p → Interpolates ring x values q → p ≡ q
  interpolation_unique h x y log values p q r size a b = interpolation_only h x y log values p r size a ∙ sym (interpolation_only h x y log values q r size b)

  -- a root of order 2 ^ log and its inverse
  pub roots_at : (h : F) (most : ℕ) (root : ℕ → F) (log : ℕ) → ring.add h h ≡ ring.unit → RootLaws ring most root → log ≤ most → Roots ring h (root log) (power ring (root log) (2 ^ log - 1)) log
  roots_at h most root log halves roots few = record {
    halves = halves;
    inverse = laws.mul_comm _ _ ∙ sym (power-suc laws (root log) (2 ^ log - 1)) ∙ ap (power ring (root log)) (let e : suc (2 ^ log - 1) ≡ 2 ^ log = omega (arith, pow_pos log) in e) ∙ whole log few;
    turns = λ m e. ap (λ l. power ring (root l) (2 ^ m)) (let k : log ≡ m + 1 = omega arith in k) ∙ roots.turns m (omega arith);
  }
    where
      whole : (l : ℕ) → l ≤ most → power ring (root l) (2 ^ l) ≡ ring.unit
      whole zero few = power-one laws (root 0) ∙ roots.first
      whole (suc m) few =
          ap (power ring (root (suc m))) (pow-suc 2 m) ∙ power-mul laws (root (suc m)) (2 ^ m) 2 ∙ power-two laws _
          ∙ ap (λ a. ring.mul a a) (ap (λ l. power ring (root l) (2 ^ m)) (let k : suc m ≡ m + 1 = omega arith in k) ∙ roots.turns m (omega arith)) ∙ neg-unit_square laws

  -- interpolation is linear
  pub interpolation-add : (h y : F) (log : ℕ) (v w : List F) → interpolation ring h y log (add_polynomials ring v w) ≡ add_polynomials ring (interpolation ring h y log v) (interpolation ring h y log w)
  unfolding coefficient
  interpolation-add h y log v w =
      ap (λ (f : ℕ → F). map f (range_with_len 0 (2 ^ log)))
      (λ i j. (ap (ring.mul (power ring h log)) (eval-add laws v w (power ring y j)) ∙ laws.mul-add (power ring h log) (eval ring v (power ring y j)) (eval ring w (power ring y j))) i)
      ∙ map-add laws (coefficient ring h y log v) (coefficient ring h y log w) (range_with_len 0 (2 ^ log))
