-- Sums of powers of a root of one whose order is a power of two.
use Rattle.std.proofs.Common.{◌≡◌, ℕ, zero, suc, ◌+◌, ◌*◌, ◌/◌, ◌^◌, ◌<◌, ◌⊎◌, inl, inr, [], ◌∷◌, sym, ap, ◌∙◌, refl, arith}
use Rattle.std.proofs.Math.Nat.{pow-suc, mul_comm}
use Rattle.field_laws.specs.Ring.{Ring, RingLaws, power}
use Rattle.field_laws.proofs.Solve.{at, one, plus, times, solve, unit-mul, nought-add, mul-nought, nought-mul}
use Rattle.field_laws.proofs.Powers.{power-zero, power-suc, power-add, power-mul, power-double, power-of_unit}
use Rattle.field_laws.proofs.Compute.{neg-unit_square}
use Rattle.field_laws.proofs.Orders.{parity}
use Rattle.field_laws.specs.Sums.{sum_to}
use Rattle.field_laws.proofs.Sums.{sum-zero, sum-suc, sum_same, sum_split, sum_scale}

halves_of : (k : ℕ) → (k ≡ 2 * (k / 2)) ⊎ (k ≡ suc (2 * (k / 2)))
halves_of k = elim (parity k) [ inl even ↦ inl (omega arith) | inr odd ↦ inr (omega arith) ]

module _ {F : Type 0} {ring : Ring F} (laws : RingLaws ring) where
  -- the sum of the first n powers of w
  pub powers : ℕ → F → F
  powers n w = sum_to ring n (power ring w)

  pub powers_twice : (n : ℕ) (w : F) → sum_to ring (n + n) (power ring w) ≡ ring.add (sum_to ring n (power ring w)) (ring.mul (power ring w n) (sum_to ring n (power ring w)))
  powers_twice n w =
      sum_split laws n n (power ring w) ∙ ap (ring.add (sum_to ring n (power ring w))) (sum_same laws n _ (λ i. ring.mul (power ring w n) (power ring w i)) (λ i h. power-add laws w n i) ∙ sym (sum_scale laws n (power ring w n) (power ring w)))

  -- the even powers of minus one
  even-turn : (m : F) (j : ℕ) → ring.mul m m ≡ ring.unit → power ring m (2 * j) ≡ ring.unit
  even-turn m j e = power-double laws m j ∙ ap (λ y. power ring y j) e ∙ power-of_unit laws j

  vanish : (s m : F) → ring.add ring.unit m ≡ ring.nought → ring.add s (ring.mul m s) ≡ ring.nought
  vanish s m e =
      solve laws (s ∷ (m ∷ [])) (plus (at 0) (times (at 1) (at 0))) (times (plus one (at 1)) (at 0)) refl
      ∙ ap (λ y. ring.mul y s) e ∙ nought-mul laws [] s

  double_pow : (n : ℕ) → 2 ^ suc n ≡ 2 ^ n + 2 ^ n
  double_pow n = pow-suc 2 n ∙ (let e : 2 ^ n * 2 ≡ 2 ^ n + 2 ^ n = omega arith in e)

  -- x ^ (2 ^ n) is minus one, so the powers of x ^ k sum to nought, unless the order divides k
  pub powers_vanish : (n : ℕ) (x : F) (k : ℕ) → power ring x (2 ^ n) ≡ ring.neg ring.unit → 0 < k → k < 2 ^ suc n → sum_to ring (2 ^ suc n) (power ring (power ring x k)) ≡ ring.nought
  powers_vanish n x k turn above below =
      ap (λ c. sum_to ring c (power ring (power ring x k))) (double_pow n) ∙ powers_twice (2 ^ n) (power ring x k) ∙ parts n x k turn above below (halves_of k)
    where
      parts : (n : ℕ) (x : F) (k : ℕ) → power ring x (2 ^ n) ≡ ring.neg ring.unit → 0 < k → k < 2 ^ suc n → (k ≡ 2 * (k / 2)) ⊎ (k ≡ suc (2 * (k / 2)))
          → ring.add (sum_to ring (2 ^ n) (power ring (power ring x k))) (ring.mul (power ring (power ring x k) (2 ^ n)) (sum_to ring (2 ^ n) (power ring (power ring x k)))) ≡ ring.nought
      parts n x k turn above below (inr odd) =
          vanish (sum_to ring (2 ^ n) (power ring (power ring x k))) (power ring (power ring x k) (2 ^ n))
          (ap (ring.add ring.unit)
          (sym (power-mul laws x k (2 ^ n)) ∙ ap (power ring x) (mul_comm k (2 ^ n)) ∙ power-mul laws x (2 ^ n) k ∙ ap (λ y. power ring y k) turn
          ∙ ap (power ring (ring.neg ring.unit)) odd ∙ power-suc laws (ring.neg ring.unit) (2 * (k / 2)) ∙ ap (ring.mul (ring.neg ring.unit)) (even-turn (ring.neg ring.unit) (k / 2) (neg-unit_square laws)) ∙ laws.mul-unit _)
          ∙ laws.add-neg ring.unit)
      parts zero x k turn above below (inl even) = absurd (omega arith)
      parts (suc m) x k turn above below (inl even) =
          let half_below : k / 2 < 2 ^ suc m = omega (arith, pow-suc 2 (suc m)) in
          let square_turns : power ring (ring.mul x x) (2 ^ m) ≡ ring.neg ring.unit =
          sym (power-double laws x (2 ^ m)) ∙ ap (power ring x) (let e : 2 * 2 ^ m ≡ 2 ^ suc m = omega (arith, pow-suc 2 m) in e) ∙ turn in
          let vanishes : sum_to ring (2 ^ suc m) (power ring (power ring x k)) ≡ ring.nought =
          ap (λ w. sum_to ring (2 ^ suc m) (power ring w)) (ap (power ring x) even ∙ power-double laws x (k / 2))
          ∙ ap (λ c. sum_to ring c (power ring (power ring (ring.mul x x) (k / 2)))) (double_pow m) ∙ powers_twice (2 ^ m) (power ring (ring.mul x x) (k / 2))
          ∙ parts m (ring.mul x x) (k / 2) square_turns (omega arith) half_below (halves_of (k / 2)) in
          ap (λ s. ring.add s (ring.mul (power ring (power ring x k) (2 ^ suc m)) s)) vanishes ∙ laws.add_comm _ _ ∙ laws.add-nought _ ∙ mul-nought laws [] _

  -- 2 ^ n times c, and then halved n times
  pub halved : (h c : F) (n : ℕ) → ring.add h h ≡ ring.unit → ring.mul (power ring h n) (sum_to ring (2 ^ n) (λ i. c)) ≡ c
  halved h c zero e =
      ap (λ y. ring.mul y (sum_to ring 1 (λ i. c))) (power-zero laws h) ∙ unit-mul laws [] _ ∙ sum-suc laws 0 (λ i. c) ∙ ap (λ y. ring.add y c) (sum-zero laws (λ i. c)) ∙ nought-add laws [] c
  halved h c (suc n) e =
      ap (λ y. ring.mul y (sum_to ring (2 ^ suc n) (λ i. c))) (power-suc laws h n)
      ∙ ap (ring.mul (ring.mul h (power ring h n))) (ap (λ m. sum_to ring m (λ i. c)) (double_pow n) ∙ sum_split laws (2 ^ n) (2 ^ n) (λ i. c))
      ∙ solve laws (h ∷ (power ring h n ∷ (sum_to ring (2 ^ n) (λ i. c) ∷ []))) (times (times (at 0) (at 1)) (plus (at 2) (at 2))) (times (plus (at 0) (at 0)) (times (at 1) (at 2))) refl
      ∙ ap (λ y. ring.mul y (ring.mul (power ring h n) (sum_to ring (2 ^ n) (λ i. c)))) e ∙ unit-mul laws [] _ ∙ halved h c n e
