-- Lemmas: the circuits of the three kinds keep the laws.
use Rattle.std.proofs.Common.{◌≡◌, ℕ, ◌+◌, ◌-◌, ◌/◌, ◌%◌, ◌^◌, ◌≤◌, ◌⊎◌, Bool, true, false, Option, Some, None, List, [], ◌∷◌, subst, sym, ap, ◌∙◌, refl, arith, get_or, length, lit≤}
use Rattle.std.specs.Prelude.{if◌then◌else◌, nat_eq, nat_lt}
use Rattle.std.specs.Option.{option_and_then}
use Rattle.std.proofs.lemmas.List.FromFn.{length-map-range_with_len, get_or-map-range_with_len}
use Rattle.field_laws.specs.Ring.{Ring, RingLaws, minus}
use Rattle.field_laws.proofs.Solve.{at, plus, times, solve}
use Rattle.field_laws.proofs.Differences.{minus-add, minus-scale}
use Rattle.field_laws.specs.Polynomial.{add_polynomials, scale}
use Rattle.field_laws.proofs.Polynomials.{get_or-add, get_or-scale}
use Rattle.flp_circuits.specs.declared.histogram.TheConstants.{MOST_BOUNDS}
use Rattle.flp_circuits.specs.Shape.{ShapeLaws, EncodeLaws, IsValid}
use Rattle.flp_circuits.specs.Kinds.{only, bucket, bit, binary, one_hot, total, weighed, count_encoding, count_shape, sum_encoding, sum_shape, histogram_encoding, histogram_shape}
use Rattle.flp_circuits.specs.LinearityLaws.{one_entry, weighted-add, weighted-scale, total-add, total-scale}
use Rattle.flp_circuits.specs.EncodingLaws.{bucket-within, bit_is, bit_valid, bits_valid, one_hot_valid}

some_then : {A : Type 0} (b : Bool) (x y : A) → (if b then Some x else None) ≡ Some y → x ≡ y
some_then true x y e = cc
some_then false x y e = absurd (cc)

-- what comes of a list of one comes of its number
pub only-then : {A : Type 0} (f : ℕ → Option A) (ms : List ℕ) (a : A) → option_and_then f (only ms) ≡ Some a → (m : ℕ) × (f m ≡ Some a)
only-then f [] a e = absurd (cc)
only-then f (m ∷ []) a e = (m, e)
only-then f (m ∷ (n ∷ ms)) a e = absurd (cc)

some_is : {A : Type 0} (x y : A) → Some x ≡ Some y → x ≡ y
some_is x y e = cc

module _ {F : Type 0} {ring : Ring F} (laws : RingLaws ring) where
  pub count_keeps : ShapeLaws ring (count_shape ring)
  count_keeps = record {
    has_calls = lit≤ tt;
    few_calls = lit≤ tt;
    has_wires = lit≤ tt;
    few_wires = lit≤ tt;
    short_input = lit≤ tt;
    short_joint = lit≤ tt;
    input-add = λ x y call wire hx hy. get_or-add laws x y 0;
    input-scale = λ a x call wire hx. get_or-scale laws a x 0;
    validity-add = λ o q x y joint r s hx hy hj hr hs.
        ap (λ v. minus ring v (get_or (add_polynomials ring x y) 0 ring.nought)) (get_or-add laws r s 0)
        ∙ ap (minus ring (ring.add (get_or r 0 ring.nought) (get_or s 0 ring.nought))) (get_or-add laws x y 0) ∙ minus-add laws _ _ _ _;
    validity-scale = λ a o x joint r hx hj hr.
        ap (λ v. minus ring v (get_or (scale ring a x) 0 ring.nought)) (get_or-scale laws a r 0) ∙ ap (minus ring (ring.mul a (get_or r 0 ring.nought))) (get_or-scale laws a x 0) ∙ minus-scale laws a _ _;
  }

  pub sum_keeps : (bits : ℕ) → 1 ≤ bits → bits ≤ 2047 → ShapeLaws ring (sum_shape ring bits)
  sum_keeps bits some few = record {
    has_calls = some;
    few_calls = few;
    has_wires = lit≤ tt;
    few_wires = lit≤ tt;
    short_input = omega arith;
    short_joint = lit≤ tt;
    input-add = λ x y call wire hx hy. get_or-add laws x y (call - 1);
    input-scale = λ a x call wire hx. get_or-scale laws a x (call - 1);
    validity-add = λ o q x y joint r s hx hy hj hr hs. weighted-add laws _ bits r s;
    validity-scale = λ a o x joint r hx hj hr. weighted-scale laws a _ bits r;
  }

  pub histogram_keeps : (bounds : List ℕ) → length bounds ≤ MOST_BOUNDS → ShapeLaws ring (histogram_shape ring bounds)
  histogram_keeps bounds few = let n : ℕ = length bounds + 1 in record {
    has_calls = omega arith;
    few_calls = omega arith;
    has_wires = lit≤ tt;
    few_wires = lit≤ tt;
    short_input = omega arith;
    short_joint = lit≤ tt;
    input-add = λ x y call wire hx hy. get_or-add laws x y (call - 1);
    input-scale = λ a x call wire hx. get_or-scale laws a x (call - 1);
    validity-add = λ o q x y joint r s hx hy hj hr hs.
        let r0 = get_or joint 0 ring.nought in
        let r1 = get_or joint 1 ring.nought in
        ap (λ v. ring.add (ring.mul r1 v) (ring.mul (ring.mul r1 r1) (minus ring (total ring n (add_polynomials ring x y)) (ring.add o q)))) (weighted-add laws _ n r s)
        ∙ ap (λ v. ring.add (ring.mul r1 (ring.add (weighed ring r0 n r) (weighed ring r0 n s))) (ring.mul (ring.mul r1 r1) v)) (ap (λ t. minus ring t (ring.add o q)) (total-add laws n x y) ∙ minus-add laws _ _ o q)
        ∙ solve laws (r1 ∷ (weighed ring r0 n r ∷ (weighed ring r0 n s ∷ (minus ring (total ring n x) o ∷ (minus ring (total ring n y) q ∷ [])))))
        (plus (times (at 0) (plus (at 1) (at 2))) (times (times (at 0) (at 0)) (plus (at 3) (at 4))))
        (plus (plus (times (at 0) (at 1)) (times (times (at 0) (at 0)) (at 3))) (plus (times (at 0) (at 2)) (times (times (at 0) (at 0)) (at 4)))) refl;
    validity-scale = λ a o x joint r hx hj hr.
        let r0 = get_or joint 0 ring.nought in
        let r1 = get_or joint 1 ring.nought in
        ap (λ v. ring.add (ring.mul r1 v) (ring.mul (ring.mul r1 r1) (minus ring (total ring n (scale ring a x)) (ring.mul a o)))) (weighted-scale laws a _ n r)
        ∙ ap (λ v. ring.add (ring.mul r1 (ring.mul a (weighed ring r0 n r))) (ring.mul (ring.mul r1 r1) v)) (ap (λ t. minus ring t (ring.mul a o)) (total-scale laws a n x) ∙ minus-scale laws a _ o)
        ∙ solve laws (r1 ∷ (weighed ring r0 n r ∷ (minus ring (total ring n x) o ∷ (a ∷ []))))
        (plus (times (at 0) (times (at 3) (at 1))) (times (times (at 0) (at 0)) (times (at 3) (at 2))))
        (times (at 3) (plus (times (at 0) (at 1)) (times (times (at 0) (at 0)) (at 2)))) refl;
  }

  pub count_encodes : EncodeLaws ring (count_shape ring)
  count_encodes = record {
    some_out = lit≤ tt;
    few_out = lit≤ tt;
    length-encode = λ ms x e. let one = only-then (count_encoding ring) ms x e in ap length (sym (some_then (nat_lt one.0 2) (bit ring (nat_eq one.0 1) ∷ []) x one.1));
    encode-valid = λ ms x joint e hj.
        let one = only-then (count_encoding ring) ms x e in
        subst (λ y. IsValid ring (count_shape ring) y joint) (some_then (nat_lt one.0 2) (bit ring (nat_eq one.0 1) ∷ []) x one.1) (bit_valid laws (bit ring (nat_eq one.0 1)) joint (bit_is laws (nat_eq one.0 1)));
    length-truncate = λ x hx. refl;
    truncate-add = λ x y hx hy. ap (λ a. a ∷ []) (get_or-add laws x y 0) ∙ sym (one_entry laws (get_or x 0 ring.nought) (get_or y 0 ring.nought));
  }

  pub sum_encodes : (bits : ℕ) → EncodeLaws ring (sum_shape ring bits)
  sum_encodes bits = record {
    some_out = lit≤ tt;
    few_out = lit≤ tt;
    length-encode = λ ms x e.
        let one = only-then (sum_encoding ring bits) ms x e in
        let m : ℕ = one.0 in
        ap length (sym (some_then (nat_lt m (2 ^ bits)) (binary ring bits m) x one.1)) ∙ length-map-range_with_len (λ i. bit ring (nat_eq (m / 2 ^ i % 2) 1)) 0 bits;
    encode-valid = λ ms x joint e hj.
        let one = only-then (sum_encoding ring bits) ms x e in
        let m : ℕ = one.0 in
        subst (λ y. IsValid ring (sum_shape ring bits) y joint) (some_then (nat_lt m (2 ^ bits)) (binary ring bits m) x one.1)
        (bits_valid laws bits (binary ring bits m) joint (λ i h. subst (λ a. (a ≡ ring.nought) ⊎ (a ≡ ring.unit)) (sym (get_or-map-range_with_len (λ i. bit ring (nat_eq (m / 2 ^ i % 2) 1)) 0 bits i i ring.nought h (omega arith))) (bit_is laws (nat_eq (m / 2 ^ i % 2) 1))));
    length-truncate = λ x hx. refl;
    truncate-add = λ x y hx hy. ap (λ a. a ∷ []) (weighted-add laws _ bits x y) ∙ sym (one_entry laws _ _);
  }

  pub histogram_encodes : (bounds : List ℕ) → length bounds ≤ MOST_BOUNDS → EncodeLaws ring (histogram_shape ring bounds)
  histogram_encodes bounds few = record {
    some_out = omega arith;
    few_out = omega arith;
    length-encode = λ ms x e.
        let one = only-then (histogram_encoding ring bounds) ms x e in
        let m : ℕ = one.0 in
        ap length (sym (some_is (one_hot ring (length bounds + 1) (bucket bounds m)) x one.1)) ∙ length-map-range_with_len (λ i. bit ring (nat_eq i (bucket bounds m))) 0 (length bounds + 1);
    encode-valid = λ ms x joint e hj.
        let one = only-then (histogram_encoding ring bounds) ms x e in
        let m : ℕ = one.0 in
        subst (λ y. IsValid ring (histogram_shape ring bounds) y joint) (some_is (one_hot ring (length bounds + 1) (bucket bounds m)) x one.1) (one_hot_valid laws bounds (bucket bounds m) joint (bucket-within bounds m));
    length-truncate = λ x hx. hx;
    truncate-add = λ x y hx hy. refl;
  }
