-- A polynomial folded to n coefficients has its values wherever x ^ n is one.
use Rattle.std.proofs.Common.{◌≡◌, ℕ, suc, ◌+◌, ◌-◌, ◌*◌, ◌^◌, ◌≤◌, List, [], ◌++◌, take, drop, sym, ap, ◌∙◌, arith, get_or, length, map}
use Rattle.std.proofs.Math.ListN.{get_or-eq_default}
use Rattle.std.proofs.Math.Seq.{take-append_seam}
use Rattle.std.proofs.Math.Nat.{mul_comm}
use Rattle.std.proofs.lemmas.Nat.{pow_pos}
use Rattle.std.specs.List.{range_with_len}
use Rattle.std.proofs.lemmas.List.FromFn.{length-map-range_with_len, get_or-map-range_with_len}
use Rattle.field_laws.specs.Ring.{Ring, RingLaws, RootLaws, power}
use Rattle.field_laws.proofs.Solve.{unit-mul, nought-mul, add-mul}
use Rattle.field_laws.proofs.Powers.{power-suc, power-add, power-mul, power-of_unit}
use Rattle.field_laws.specs.Sums.{sum_to}
use Rattle.field_laws.specs.Polynomial.{eval}
use Rattle.field_laws.proofs.Sums.{sum_same, sum_add, sum_split, sum_nought, eval_is_sum}
use Rattle.field_laws.proofs.Interpolation.{roots_at}
use Rattle.poly_ntt.specs.Transform.{values_at_powers}
use Rattle.flp_proof.proofs.Complete.{same_on_range}

-- a slice over a whole vector, written back
pub written : {A : Type 0} (new old : List A) (n : ℕ) → length new ≡ n → take n (new ++ drop (length new) old) ≡ new
written new old n e = ap (λ k. take k (new ++ drop (length new) old)) (sym e) ∙ take-append_seam new (drop (length new) old)

module _ {F : Type 0} {ring : Ring F} (laws : RingLaws ring) where
  -- a polynomial given by its entries
  eval-listed : (f : ℕ → F) (n : ℕ) (x : F) → eval ring (map f (range_with_len 0 n)) x ≡ sum_to ring n (λ i. ring.mul (f i) (power ring x i))
  eval-listed f n x =
      let p : List F = map f (range_with_len 0 n) in
      eval_is_sum laws p x
      ∙ ap (λ k. sum_to ring k (λ i. ring.mul (get_or p i ring.nought) (power ring x i))) (length-map-range_with_len f 0 n)
      ∙ sum_same laws n _ (λ i. ring.mul (f i) (power ring x i)) (λ i small. ap (λ a. ring.mul a (power ring x i)) (get_or-map-range_with_len f 0 n i i ring.nought small (omega arith)))

  -- a value as a sum that goes on past the last coefficient
  eval-sum_to : (p : List F) (n : ℕ) (x : F) → length p ≤ n → sum_to ring n (λ i. ring.mul (get_or p i ring.nought) (power ring x i)) ≡ eval ring p x
  eval-sum_to p n x short =
      let m : ℕ = length p in
      let f : ℕ → F = λ i. ring.mul (get_or p i ring.nought) (power ring x i) in
      ap (λ k. sum_to ring k f) (let e : n ≡ m + (n - m) = omega arith in e)
      ∙ sum_split laws m (n - m) f
      ∙ ap (ring.add (sum_to ring m f)) (sum_nought laws (n - m) (λ i. f (m + i)) (λ i small. ap (λ a. ring.mul a (power ring x (m + i))) (get_or-eq_default p ring.nought (let e : length p ≤ m + i = omega arith in e)) ∙ nought-mul laws [] _))
      ∙ laws.add-nought _
      ∙ sym (eval_is_sum laws p x)

  eval-folded : (p : List F) (n : ℕ) (x : F) → length p ≤ 2 * n → power ring x n ≡ ring.unit
      → eval ring (map (λ i. ring.add (get_or p i ring.nought) (get_or p (n + i) ring.nought)) (range_with_len 0 n)) x ≡ eval ring p x
  eval-folded p n x short whole =
      let f : ℕ → F = λ i. ring.mul (get_or p i ring.nought) (power ring x i) in
      eval-listed (λ i. ring.add (get_or p i ring.nought) (get_or p (n + i) ring.nought)) n x
      ∙ sum_same laws n _ (λ i. ring.add (f i) (f (n + i)))
      (λ i small. add-mul laws [] (get_or p i ring.nought) (get_or p (n + i) ring.nought) (power ring x i)
      ∙ ap (λ y. ring.add (f i) (ring.mul (get_or p (n + i) ring.nought) y)) (sym (power-add laws x n i ∙ ap (λ y. ring.mul y (power ring x i)) whole ∙ unit-mul laws [] (power ring x i))))
      ∙ sum_add laws n f (λ i. f (n + i))
      ∙ sym (sum_split laws n n f)
      ∙ eval-sum_to p (n + n) x (omega arith)

  -- at the powers of a root of order n
  pub values-folded : (half : F) (root : ℕ → F) (log : ℕ) (p : List F) → ring.add half half ≡ ring.unit → RootLaws ring 16 root → log ≤ 16 → length p ≤ 2 * 2 ^ log
      → values_at_powers ring (root log) (2 ^ log) (map (λ i. ring.add (get_or p i ring.nought) (get_or p (2 ^ log + i) ring.nought)) (range_with_len 0 (2 ^ log)))
      ≡ values_at_powers ring (root log) (2 ^ log) p
  values-folded half root log p halves roots few short =
      let n : ℕ = 2 ^ log in
      let x : F = root log in
      let pair = roots_at laws half 16 root log halves roots few in
      let whole : power ring x n ≡ ring.unit = ap (power ring x) (let e : n ≡ suc (n - 1) = omega (arith, pow_pos log) in e) ∙ power-suc laws x (n - 1) ∙ laws.mul_comm x (power ring x (n - 1)) ∙ pair.inverse in
      same_on_range _ (λ k. eval ring p (power ring x k)) 0 n
      (λ k low high. eval-folded p n (power ring x k) short
      (sym (power-mul laws x k n) ∙ ap (power ring x) (mul_comm k n) ∙ power-mul laws x n k ∙ ap (λ y. power ring y k) whole ∙ power-of_unit laws k))
