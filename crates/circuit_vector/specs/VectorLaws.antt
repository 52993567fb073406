-- Lemmas: the circuit of vectors keeps the laws.
use Rattle.std.proofs.Common.{◌≡◌, ℕ, zero, suc, ◌+◌, ◌-◌, ◌*◌, ◌/◌, ◌%◌, ◌^◌, ◌<◌, ◌≤◌, ◌⊎◌, inl, inr, Bool, true, Some, None, List, [], ◌∷◌, ◌++◌, map, drop, length, sym, ap, ◌∙◌, refl, subst, arith, get_or}
use Rattle.std.specs.Prelude.{nat_eq, nat_lt}
use Rattle.std.specs.List.{list_all, range_with_len}
use Rattle.std.proofs.Math.Nat.{suc-mul, mul-le-mul}
use Rattle.std.proofs.lemmas.Bool.{and_parts, cases_lt, eqb-true}
use Rattle.std.proofs.lemmas.Option.{cond_some}
use Rattle.std.proofs.lemmas.List.{length-append, get_or_append_left, get_or-append_right, get_or-drop}
use Rattle.std.proofs.lemmas.List.FromFn.{length-map-range_with_len, get_or-map-range_with_len}
use Rattle.field_laws.specs.Ring.{Ring, RingLaws}
use Rattle.field_laws.specs.Polynomial.{add_polynomials}
use Rattle.field_laws.proofs.Polynomials.{get_or-add}
use Rattle.flp_circuits.specs.Shape.{ShapeLaws, EncodeLaws, IsValid}
use Rattle.flp_circuits.specs.Kinds.{bit, binary}
use Rattle.flp_circuits.specs.LinearityLaws.{weighted-add, weighted-entries}
use Rattle.flp_circuits.specs.EncodingLaws.{bit_is, bits_valid}
use Rattle.flp_circuits.specs.CircuitLaws.{sum_keeps}
use Rattle.circuit_vector.specs.Vector.{AreSizes, are_numbers, bits_of_list, list_encoding, entry, vector_shape}

module _ {F : Type 0} {ring : Ring F} (laws : RingLaws ring) where
  pub length-binary : (bits m : ℕ) → length (binary ring bits m) ≡ bits
  length-binary bits m = length-map-range_with_len (λ i. bit ring (nat_eq (m / 2 ^ i % 2) 1)) 0 bits

  pub length-bits : (bits : ℕ) (ms : List ℕ) → length (bits_of_list ring bits ms) ≡ length ms * bits
  length-bits bits [] = let e : 0 ≡ 0 * bits = omega arith in e
  length-bits bits (m ∷ ms) =
      let first : length (binary ring bits m) ≡ bits = length-binary bits m in
      let rest : length (bits_of_list ring bits ms) ≡ length ms * bits = length-bits bits ms in
      length-append (binary ring bits m) (bits_of_list ring bits ms) ∙ omega (arith, suc-mul (length ms) bits)

  binary_bit : (bits m i : ℕ) → i < bits → (get_or (binary ring bits m) i ring.nought ≡ ring.nought) ⊎ (get_or (binary ring bits m) i ring.nought ≡ ring.unit)
  binary_bit bits m i small =
      subst (λ a. (a ≡ ring.nought) ⊎ (a ≡ ring.unit)) (sym (get_or-map-range_with_len (λ i. bit ring (nat_eq (m / 2 ^ i % 2) 1)) 0 bits i i ring.nought small (omega arith)))
      (bit_is laws (nat_eq (m / 2 ^ i % 2) 1))

  -- each entry of a list's input is a bit
  list_bit : (bits : ℕ) (ms : List ℕ) (i : ℕ) → i < length ms * bits
      → (get_or (bits_of_list ring bits ms) i ring.nought ≡ ring.nought) ⊎ (get_or (bits_of_list ring bits ms) i ring.nought ≡ ring.unit)
  list_bit bits [] i small = absurd (omega arith)
  list_bit bits (m ∷ ms) i small = elim (cases_lt i bits) [
    | inl h ↦ subst (λ a. (a ≡ ring.nought) ⊎ (a ≡ ring.unit)) (sym (get_or_append_left (binary ring bits m) (bits_of_list ring bits ms) ring.nought i (omega (arith, length-binary bits m)))) (binary_bit bits m i h)
    | inr h ↦ subst (λ a. (a ≡ ring.nought) ⊎ (a ≡ ring.unit)) (sym (get_or-append_right (binary ring bits m) (bits_of_list ring bits ms) bits i ring.nought (length-binary bits m) h)) (list_bit bits ms (i - bits) (omega (arith, suc-mul (length ms) bits)))
  ]

  -- what a list with an input is
  pub taken : (len bits : ℕ) (ms : List ℕ) (x : List F) → list_encoding ring len bits ms ≡ Some x
      → (length ms ≡ len) × ((list_all (λ m. nat_lt m (2 ^ bits)) ms ≡ true) × (bits_of_list ring bits ms ≡ x))
  taken len bits ms x e =
      let all = cond_some (are_numbers len bits ms) (bits_of_list ring bits ms) x e in
      let parts = and_parts (nat_eq (length ms) len) (list_all (λ m. nat_lt m (2 ^ bits)) ms) all.0 in
      (eqb-true (length ms) len parts.0, (parts.1, all.1))

  pub list_size : (len bits : ℕ) (ms : List ℕ) (x : List F) → list_encoding ring len bits ms ≡ Some x → length x ≡ len * bits
  list_size len bits ms x e = let t = taken len bits ms x e in ap length (sym t.1.1) ∙ length-bits bits ms ∙ ap (λ n. n * bits) t.0

  pub list_valid : (len bits : ℕ) (ms : List ℕ) (x joint : List F) → list_encoding ring len bits ms ≡ Some x → IsValid ring (vector_shape ring len bits) x joint
  list_valid len bits ms x joint e =
      let t = taken len bits ms x e in
      bits_valid laws (len * bits) x joint
      (λ i small. subst (λ y. (get_or y i ring.nought ≡ ring.nought) ⊎ (get_or y i ring.nought ≡ ring.unit)) t.1.1 (list_bit bits ms i (subst (λ n. i < n * bits) (sym t.0) small)))

  maps-add : (f g h : ℕ → F) → ((j : ℕ) → h j ≡ ring.add (f j) (g j)) → (js : List ℕ) → map h js ≡ add_polynomials ring (map f js) (map g js)
  unfolding add_polynomials
  maps-add f g h same [] = refl
  maps-add f g h same (j ∷ js) = ap (λ a. a ∷ map h js) (same j) ∙ ap (λ l. ring.add (f j) (g j) ∷ l) (maps-add f g h same js)

  entry-add : (bits : ℕ) (x y : List F) (j : ℕ) → entry ring bits (add_polynomials ring x y) j ≡ ring.add (entry ring bits x j) (entry ring bits y j)
  entry-add bits x y j =
      let k : ℕ = j * bits in
      weighted-entries laws _ bits (drop k (add_polynomials ring x y)) (add_polynomials ring (drop k x) (drop k y))
      (λ i small. get_or-drop k (add_polynomials ring x y) i ring.nought ∙ get_or-add laws x y (k + i)
      ∙ ap (λ a. ring.add a (get_or y (k + i) ring.nought)) (sym (get_or-drop k x i ring.nought)) ∙ ap (ring.add (get_or (drop k x) i ring.nought)) (sym (get_or-drop k y i ring.nought))
      ∙ sym (get_or-add laws (drop k x) (drop k y) i))
      ∙ weighted-add laws _ bits (drop k x) (drop k y)

  pub vector_keeps : (len bits : ℕ) → AreSizes len bits → ShapeLaws ring (vector_shape ring len bits)
  vector_keeps len bits sizes =
      let some : 1 * 1 ≤ len * bits = mul-le-mul sizes.some_numbers sizes.some_bits in
      let kept = sum_keeps laws (len * bits) some sizes.short_input in record {
        has_calls = kept.has_calls;
        few_calls = kept.few_calls;
        has_wires = kept.has_wires;
        few_wires = kept.few_wires;
        short_input = kept.short_input;
        short_joint = kept.short_joint;
        input-add = kept.input-add;
        input-scale = kept.input-scale;
        validity-add = kept.validity-add;
        validity-scale = kept.validity-scale;
      }

  pub vector_encodes : (len bits : ℕ) → AreSizes len bits → EncodeLaws ring (vector_shape ring len bits)
  vector_encodes len bits sizes = record {
    some_out = sizes.some_numbers;
    few_out = sizes.few_numbers;
    length-encode = list_size len bits;
    encode-valid = λ ms x joint e hj. list_valid len bits ms x joint e;
    length-truncate = λ x hx. length-map-range_with_len (entry ring bits x) 0 len;
    truncate-add = λ x y hx hy. maps-add (entry ring bits x) (entry ring bits y) (entry ring bits (add_polynomials ring x y)) (entry-add bits x y) (range_with_len 0 len);
  }
