-- Lemmas: lists of bits and one-hot lists keep the circuits' rules.
use Rattle.std.proofs.Common.{◌≡◌, ℕ, ◌+◌, ◌-◌, ◌<◌, ◌⊎◌, inl, inr, Bool, true, false, Option, Some, None, List, [], ◌∷◌, sym, ap, ◌∙◌, refl, arith, get_or, length}
use Rattle.std.specs.Prelude.{nat_eq, nat_le, position, unwrap_or}
use Rattle.std.proofs.lemmas.Bool.{eq-eqb, ne_eqb}
use Rattle.std.proofs.lemmas.List.Quantifiers.{position-Some}
use Rattle.std.proofs.lemmas.List.FromFn.{get_or-map-range_with_len}
use Rattle.field_laws.specs.Ring.{Ring, RingLaws, minus}
use Rattle.field_laws.proofs.Solve.{mul-nought}
use Rattle.field_laws.proofs.Sums.{sum_only}
use Rattle.flp_circuits.specs.Shape.{quadratic_at, Shape, gadget, wires_of, results, IsValid}
use Rattle.flp_circuits.specs.Kinds.{bucket, bit_form, bit, one_hot, total, count_shape, sum_shape, histogram_shape}
use Rattle.flp_circuits.specs.LinearityLaws.{weighted-noughts, product_gadget, bit_gadget, bit-vanishes}

-- a bucket is one of those that there are
pub bucket-within : (bounds : List ℕ) (m : ℕ) → bucket bounds m < length bounds + 1
bucket-within bounds m = cases (position (λ bound. nat_le m bound) bounds) refl
  where
    cases : (found : Option ℕ) → position (λ bound. nat_le m bound) bounds ≡ found → unwrap_or found (length bounds) < length bounds + 1
    cases None e = omega arith
    cases (Some i) e = let within = position-Some (λ bound. nat_le m bound) bounds i 0 e in omega (arith, within.0)

module _ {F : Type 0} {ring : Ring F} (laws : RingLaws ring) where
  pub bit_is : (b : Bool) → (bit ring b ≡ ring.nought) ⊎ (bit ring b ≡ ring.unit)
  bit_is true = inr refl
  bit_is false = inl refl

  -- the results of calls on bits are nought
  bits_vanish : (c : Shape F) (x : List F) → c.form ≡ bit_form ring → ((call wire : ℕ) → c.input x call wire ≡ get_or x (call - 1) ring.nought) → ((i : ℕ) → i < c.calls → (get_or x i ring.nought ≡ ring.nought) ⊎ (get_or x i ring.nought ≡ ring.unit)) → c.arity ≡ 1
      → (i : ℕ) → i < c.calls → get_or (results ring c x) i ring.nought ≡ ring.nought
  bits_vanish c x form input bits wires i small =
      get_or-map-range_with_len (λ i. gadget ring c (wires_of c x (i + 1))) 0 c.calls i i ring.nought small (omega arith)
      ∙ ap (λ f. quadratic_at ring f (get_or (wires_of c x (i + 1)) 0 ring.nought) (get_or (wires_of c x (i + 1)) 1 ring.nought)) form
      ∙ ap (λ a. quadratic_at ring (bit_form ring) a (get_or (wires_of c x (i + 1)) 1 ring.nought))
      (get_or-map-range_with_len (λ j. c.input x (i + 1) j) 0 c.arity 0 0 ring.nought (omega arith) (omega arith) ∙ input (i + 1) 0 ∙ ap (λ k. get_or x k ring.nought) (let e : i + 1 - 1 ≡ i = omega arith in e))
      ∙ sym (bit_gadget laws (get_or x i ring.nought) (get_or (wires_of c x (i + 1)) 1 ring.nought))
      ∙ bit-vanishes laws (get_or x i ring.nought) (bits i small)

  pub bit_valid : (a : F) (joint : List F) → (a ≡ ring.nought) ⊎ (a ≡ ring.unit) → IsValid ring (count_shape ring) (a ∷ []) joint
  bit_valid a joint is_bit = ap (λ g. minus ring g a) (sym (product_gadget laws a a)) ∙ bit-vanishes laws a is_bit

  pub bits_valid : (n : ℕ) (x joint : List F) → ((i : ℕ) → i < n → (get_or x i ring.nought ≡ ring.nought) ⊎ (get_or x i ring.nought ≡ ring.unit)) → IsValid ring (sum_shape ring n) x joint
  bits_valid n x joint bits = weighted-noughts laws _ n (results ring (sum_shape ring n) x) (bits_vanish (sum_shape ring n) x refl (λ call wire. refl) bits refl)

  hot_read : (n place i : ℕ) → i < n → get_or (one_hot ring n place) i ring.nought ≡ bit ring (nat_eq i place)
  hot_read n place i small = get_or-map-range_with_len (λ i. bit ring (nat_eq i place)) 0 n i i ring.nought small (omega arith)

  hot_entry : (n place i : ℕ) → i < n → (get_or (one_hot ring n place) i ring.nought ≡ ring.nought) ⊎ (get_or (one_hot ring n place) i ring.nought ≡ ring.unit)
  hot_entry n place i small = either (nat_eq i place) refl
    where
      either : (b : Bool) → nat_eq i place ≡ b → (get_or (one_hot ring n place) i ring.nought ≡ ring.nought) ⊎ (get_or (one_hot ring n place) i ring.nought ≡ ring.unit)
      either true e = inr (hot_read n place i small ∙ ap (bit ring) e)
      either false e = inl (hot_read n place i small ∙ ap (bit ring) e)

  hot_total : (n place : ℕ) → place < n → total ring n (one_hot ring n place) ≡ ring.unit
  unfolding total
  hot_total n place small =
      sum_only laws n place (λ i. get_or (one_hot ring n place) i ring.nought) small (λ i within ne. hot_read n place i within ∙ ap (bit ring) (ne_eqb i place ne))
      ∙ hot_read n place place small ∙ ap (bit ring) (eq-eqb place place refl)

  pub one_hot_valid : (bounds : List ℕ) (place : ℕ) (joint : List F) → place < length bounds + 1 → IsValid ring (histogram_shape ring bounds) (one_hot ring (length bounds + 1) place) joint
  one_hot_valid bounds place joint small =
      let n : ℕ = length bounds + 1 in
      let c : Shape F = histogram_shape ring bounds in
      let x : List F = one_hot ring n place in
      let r1 = get_or joint 1 ring.nought in
      ap (λ v. ring.add (ring.mul r1 v) (ring.mul (ring.mul r1 r1) (minus ring (total ring n x) ring.unit)))
      (weighted-noughts laws _ n (results ring c x) (bits_vanish c x refl (λ call wire. refl) (λ i within. hot_entry n place i within) refl))
      ∙ ap (λ t. ring.add (ring.mul r1 ring.nought) (ring.mul (ring.mul r1 r1) (minus ring t ring.unit))) (hot_total n place small)
      ∙ ap (λ v. ring.add (ring.mul r1 ring.nought) (ring.mul (ring.mul r1 r1) v)) (laws.add-neg ring.unit)
      ∙ ap (ring.add (ring.mul r1 ring.nought)) (mul-nought laws [] _) ∙ laws.add-nought _ ∙ mul-nought laws [] r1
