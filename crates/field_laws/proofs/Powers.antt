-- Laws of powers in a commutative ring.
use Rattle.std.proofs.Common.{◌≡◌, ℕ, zero, suc, ◌+◌, ◌*◌, ◌/◌, ◌%◌, [], ◌∷◌, sym, ap, ◌∙◌, refl, arith}
use Rattle.std.proofs.Math.Nat.{mul-zero, mul-suc}
use Rattle.field_laws.specs.Ring.{Ring, RingLaws, power}
use Rattle.field_laws.proofs.Solve.{at, times, solve, unit-mul}

module _ {F : Type 0} {ring : Ring F} (laws : RingLaws ring) where
  pub power-zero : (x : F) → power ring x 0 ≡ ring.unit
  unfolding power
  power-zero x = refl

  pub power-suc : (x : F) (n : ℕ) → power ring x (suc n) ≡ ring.mul x (power ring x n)
  unfolding power
  power-suc x n = refl

  pub power-one : (x : F) → power ring x 1 ≡ x
  power-one x = power-suc x 0 ∙ ap (ring.mul x) (power-zero x) ∙ laws.mul-unit x

  pub power-add : (x : F) (m n : ℕ) → power ring x (m + n) ≡ ring.mul (power ring x m) (power ring x n)
  power-add x zero n = ap (power ring x) (let e : 0 + n ≡ n = omega arith in e) ∙ sym (unit-mul laws [] (power ring x n)) ∙ ap (λ y. ring.mul y (power ring x n)) (sym (power-zero x))
  power-add x (suc m) n =
      ap (power ring x) (let e : suc m + n ≡ suc (m + n) = omega arith in e) ∙ power-suc x (m + n) ∙ ap (ring.mul x) (power-add x m n) ∙ sym (laws.mul_assoc x (power ring x m) (power ring x n)) ∙ ap (λ y. ring.mul y (power ring x n)) (sym (power-suc x m))

  pub power-of_unit : (n : ℕ) → power ring ring.unit n ≡ ring.unit
  power-of_unit zero = power-zero ring.unit
  power-of_unit (suc n) = power-suc ring.unit n ∙ unit-mul laws [] _ ∙ power-of_unit n

  pub power-of_mul : (x y : F) (n : ℕ) → power ring (ring.mul x y) n ≡ ring.mul (power ring x n) (power ring y n)
  power-of_mul x y zero = power-zero _ ∙ sym (laws.mul-unit ring.unit) ∙ ap (λ a. ring.mul a ring.unit) (sym (power-zero x)) ∙ ap (ring.mul (power ring x 0)) (sym (power-zero y))
  power-of_mul x y (suc n) =
      power-suc (ring.mul x y) n ∙ ap (ring.mul (ring.mul x y)) (power-of_mul x y n)
      ∙ solve laws (x ∷ (y ∷ (power ring x n ∷ (power ring y n ∷ [])))) (times (times (at 0) (at 1)) (times (at 2) (at 3))) (times (times (at 0) (at 2)) (times (at 1) (at 3))) refl
      ∙ ap (λ a. ring.mul a (ring.mul y (power ring y n))) (sym (power-suc x n)) ∙ ap (ring.mul (power ring x (suc n))) (sym (power-suc y n))

  pub power-mul : (x : F) (m n : ℕ) → power ring x (m * n) ≡ power ring (power ring x m) n
  power-mul x m zero = ap (power ring x) (mul-zero m) ∙ power-zero x ∙ sym (power-zero (power ring x m))
  power-mul x m (suc n) = ap (power ring x) (mul-suc m n) ∙ power-add x (m * n) m ∙ ap (λ a. ring.mul a (power ring x m)) (power-mul x m n) ∙ laws.mul_comm _ _ ∙ sym (power-suc (power ring x m) n)

  pub power-two : (x : F) → power ring x 2 ≡ ring.mul x x
  power-two x = power-suc x 1 ∙ ap (ring.mul x) (power-one x)

  -- a step of the loop that squares
  pub power-double : (x : F) (n : ℕ) → power ring x (2 * n) ≡ power ring (ring.mul x x) n
  power-double x n = power-mul x 2 n ∙ ap (λ a. power ring a n) (power-two x)

  pub even_step : (p b : F) (n : ℕ) → n % 2 ≡ 0 → ring.mul p (power ring (ring.mul b b) (n / 2)) ≡ ring.mul p (power ring b n)
  even_step p b n h = ap (ring.mul p) (sym (power-double b (n / 2)) ∙ ap (power ring b) (let e : 2 * (n / 2) ≡ n = omega arith in e))

  pub odd_step : (p b : F) (n : ℕ) → n % 2 ≡ 1 → ring.mul (ring.mul p b) (power ring (ring.mul b b) (n / 2)) ≡ ring.mul p (power ring b n)
  odd_step p b n h =
      laws.mul_assoc p b _ ∙ ap (λ x. ring.mul p (ring.mul b x)) (sym (power-double b (n / 2))) ∙ ap (ring.mul p) (sym (power-suc b (2 * (n / 2))) ∙ ap (power ring b) (let e : suc (2 * (n / 2)) ≡ n = omega arith in e))
