-- Lemmas: the out share of a list's input has its numbers, and an input of bits is that of a list.
use Rattle.std.proofs.Common.{◌≡◌, ℕ, zero, suc, ◌+◌, ◌-◌, ◌*◌, ◌/◌, ◌%◌, ◌^◌, ◌<◌, ◌≤◌, ◌⊎◌, cond, Bool, true, Some, None, List, [], ◌∷◌, ◌++◌, map, take, drop, length, sym, ap, ◌∙◌, refl, subst, arith, get_or}
use Rattle.std.specs.Prelude.{nat_eq, nat_lt}
use Rattle.std.specs.List.{list_all, range_with_len}
use Rattle.std.proofs.Math.Nat.{suc-mul, mod-eq_of_lt}
use Rattle.std.proofs.lemmas.Bool.{and_parts, and_from, lt-ltb, ltb-true, eq-eqb}
use Rattle.std.proofs.lemmas.List.{get_or_append_left, get_or-take, get_or-drop, drop-drop, drop_at, length-take-le, length-drop, take-append-drop, nil_from_length}
use Rattle.std.proofs.lemmas.List.FromFn.{fill_by_all}
use Rattle.field_laws.specs.Ring.{Ring, RingLaws}
use Rattle.field_laws.specs.Residues.{Residues, residue_ring}
use Rattle.field_laws.specs.Primes.{NoDivisors}
use Rattle.field_laws.proofs.Modulo.{number-small}
use Rattle.flp_circuits.specs.Kinds.{bit, binary, number_of}
use Rattle.flp_circuits.specs.StaysValid.{StaysValid}
use Rattle.flp_circuits.specs.LinearityLaws.{weighted-entries}
use Rattle.flp_circuits.proofs.Digits.{number-binary}
use Rattle.flp_circuits.proofs.Refusals.{sum_bits, bits_number}
use Rattle.circuit_vector.specs.Vector.{are_numbers, bits_of_list, list_encoding, entry, vector_shape}
use Rattle.circuit_vector.specs.VectorLaws.{length-binary, taken}

below : (top : ℕ) (ms : List ℕ) (k : ℕ) → list_all (λ m. nat_lt m top) ms ≡ true → k < length ms → get_or ms k 0 < top
below top [] k all small = absurd (omega arith)
below top (m ∷ ms) zero all small = ltb-true m top (and_parts (nat_lt m top) (list_all (λ m. nat_lt m top) ms) all).0
below top (m ∷ ms) (suc k) all small = below top ms k (and_parts (nat_lt m top) (list_all (λ m. nat_lt m top) ms) all).1 (omega arith)

map_twice : {X Y Z : Type 0} (f : Y → Z) (g : X → Y) (xs : List X) → map f (map g xs) ≡ map (λ x. f (g x)) xs
map_twice f g [] = refl
map_twice f g (x ∷ xs) = ap (λ l. f (g x) ∷ l) (map_twice f g xs)

module _ {F : Type 0} {ring : Ring F} {p : ℕ} {number : F → ℕ} {residue : ℕ → F} (laws : RingLaws ring) (residues : Residues p number residue) (is_ring : ring ≡ residue_ring p number residue) where
  entry_of : (bits : ℕ) (ms : List ℕ) (j : ℕ) → j < length ms → entry ring bits (bits_of_list ring bits ms) j ≡ number_of ring bits (binary ring bits (get_or ms j 0))
  entry_of bits [] j small = absurd (omega arith)
  entry_of bits (m ∷ ms) zero small =
      let rest : List F = bits_of_list ring bits ms in
      ap (λ k. number_of ring bits (drop k (binary ring bits m ++ rest))) (let e : 0 * bits ≡ 0 = omega arith in e)
      ∙ weighted-entries laws _ bits (binary ring bits m ++ rest) (binary ring bits m)
      (λ i inside. get_or_append_left (binary ring bits m) rest ring.nought i (omega (arith, length-binary laws bits m)))
  entry_of bits (m ∷ ms) (suc j) small =
      let rest : List F = bits_of_list ring bits ms in
      ap (λ k. number_of ring bits (drop k (binary ring bits m ++ rest))) (let e : suc j * bits ≡ bits + j * bits = omega (arith, suc-mul j bits) in e)
      ∙ ap (number_of ring bits) (sym (drop-drop (j * bits) bits (binary ring bits m ++ rest)) ∙ ap (drop (j * bits)) (drop_at (binary ring bits m) rest bits (length-binary laws bits m)))
      ∙ entry_of bits ms j (omega arith)

  -- the out share of a list's input has the list's numbers
  pub list_numbers : (len bits : ℕ) (ms : List ℕ) (x : List F) → 2 ^ bits ≤ p → list_encoding ring len bits ms ≡ Some x
      → map number ((vector_shape ring len bits).truncate x) ≡ ms
  list_numbers len bits ms x room e =
      let t = taken laws len bits ms x e in
      map_twice number (entry ring bits x) (range_with_len 0 len)
      ∙ sym (fill_by_all (λ j. number (entry ring bits x j)) ms len 0 t.0 (λ j small.
      let m : ℕ = get_or ms j 0 in
      let fits : m < 2 ^ bits = below (2 ^ bits) ms j t.1.0 (omega (arith, t.0)) in
      sym (ap (λ y. number (entry ring bits y j)) (sym t.1.1)
      ∙ ap number (entry_of bits ms j (omega (arith, t.0)) ∙ number-binary laws residues is_ring bits m ∙ ap residue (mod-eq_of_lt fits))
      ∙ number-small residues m (omega arith))))

module _ {F : Type 0} {ring : Ring F} (laws : RingLaws ring) (whole : NoDivisors ring) where
  -- so many bits are the input of a list
  bits_list : (bits len : ℕ) (x : List F) → length x ≡ len * bits
      → ((i : ℕ) → i < len * bits → (get_or x i ring.nought ≡ ring.nought) ⊎ (get_or x i ring.nought ≡ ring.unit))
      → (ms : List ℕ) × ((length ms ≡ len) × ((list_all (λ m. nat_lt m (2 ^ bits)) ms ≡ true) × (bits_of_list ring bits ms ≡ x)))
  bits_list bits zero x size is_bit = ([], (refl, (refl, sym (nil_from_length x (size ∙ (let e : 0 * bits ≡ 0 = omega arith in e))))))
  bits_list bits (suc len) x size is_bit =
      let more : suc len * bits ≡ len * bits + bits = suc-mul len bits in
      let front : List F = take bits x in
      let front_size : length front ≡ bits = length-take-le bits x (omega (arith, more)) in
      let found = bits_number laws whole front (λ i small.
      let inside : i < bits = omega (arith, front_size) in
      subst (λ a. (a ≡ ring.nought) ⊎ (a ≡ ring.unit)) (sym (get_or-take bits x i ring.nought inside)) (is_bit i (omega (arith, more)))) in
      let m : ℕ = found.0 in
      let fits : m < 2 ^ bits = subst (λ n. m < 2 ^ n) front_size found.1.0 in
      let same : front ≡ binary ring bits m = fill_by_all (λ i. bit ring (nat_eq (m / 2 ^ i % 2) 1)) front bits ring.nought front_size (λ j small. found.1.1 j (omega (arith, front_size))) in
      let rest = bits_list bits len (drop bits x) (length-drop bits x ∙ (let e : length x - bits ≡ len * bits = omega (arith, size, more) in e)) (λ i small.
      subst (λ a. (a ≡ ring.nought) ⊎ (a ≡ ring.unit)) (sym (get_or-drop bits x i ring.nought)) (is_bit (bits + i) (omega (arith, more)))) in (
        m ∷ rest.0,
        (
          ap suc rest.1.0,
          (
            and_from (nat_lt m (2 ^ bits)) (list_all (λ m. nat_lt m (2 ^ bits)) rest.0) (lt-ltb m (2 ^ bits) fits) rest.1.1.0,
            ap (λ l. l ++ bits_of_list ring bits rest.0) (sym same) ∙ ap (λ l. front ++ l) rest.1.1.1 ∙ take-append-drop bits x,
          ),
        ),
      )

  -- an input that stays valid is that of a list
  pub vector_refuses : (len bits : ℕ) (x rs : List F) → length x ≡ len * bits → len * bits < length rs → StaysValid ring (vector_shape ring len bits) x rs
      → (ms : List ℕ) × (list_encoding ring len bits ms ≡ Some x)
  vector_refuses len bits x rs size many stays =
      let found = bits_list bits len x size (sum_bits laws whole (len * bits) x rs many (record { different = stays.different; valid = stays.valid })) in
      let ms : List ℕ = found.0 in (
        ms,
        ap (λ b. cond b (Some (bits_of_list ring bits ms)) None)
            (and_from (nat_eq (length ms) len) (list_all (λ m. nat_lt m (2 ^ bits)) ms) (eq-eqb (length ms) len found.1.0) found.1.1.0)
            ∙ ap Some found.1.1.1,
      )
