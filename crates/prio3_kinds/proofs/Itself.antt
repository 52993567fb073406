-- Lemmas: the vector of a count's, a sum's or a vector's measurement is the measurement itself, and that of a
-- histogram's has 1 in its bucket; and which lists are measurements.
use Rattle.std.proofs.Common.{◌≡◌, ℕ, ◌+◌, ◌^◌, ◌<◌, ◌≤◌, List, [], ◌∷◌, length, map, Bool, true, false, Option, Some, None, ap, ◌∙◌, refl, arith, lit≤, le_trans}
use Rattle.std.specs.Prelude.{nat_eq, nat_lt, if◌then◌else◌}
use Rattle.std.specs.List.{range_with_len}
use Rattle.std.specs.Option.{is_some, option_and_then}
use Rattle.std.proofs.Math.Nat.{pow-le-pow_right, mod-eq_of_lt}
use Rattle.std.proofs.lemmas.Bool.Decides.{nat_tests}
use Rattle.field_laws.proofs.Modulo.{number-small}
use Rattle.flp_circuits.specs.Kinds.{bucket, bit, binary, only, count_encoding, count_shape, sum_encoding, sum_shape, histogram_encoding, histogram_shape}
use Rattle.flp_circuits.proofs.Digits.{bit-residue, nought-residue, number-binary, unit-residue}
use Rattle.prio3_share.specs.Base.{Base, BaseLaws}
use Rattle.prio3_share.specs.Sharing.{encoding}
use Rattle.circuit_vector.specs.Vector.{are_numbers, bits_of_list, vector_shape}
use Rattle.circuit_vector.proofs.Numbers.{list_numbers}
use Rattle.vdaf_api.specs.declared.kind.Kind.{Kind}
use Rattle.prio3_kinds.specs.Kinds.{functions_of_kind, is_measurement, is_one, one_at}
use Rattle.prio3_kinds.specs.KindLaws.{base64_laws, base128_laws}
use Rattle.vdaf_api.specs.declared.kind.Kind.TheVariants.{Count, Sum, Histogram, Vector}

some-if : {A B : Type 0} (t : Bool) (a : A) (f : A → B) → is_some (option_and_then (λ a. Some (f a)) (if t then Some a else None)) ≡ t
some-if true a f = refl
some-if false a f = refl

some-only : {A B : Type 0} (g : ℕ → Option A) (f : A → B) (test : ℕ → Bool) → ((m : ℕ) → is_some (option_and_then (λ a. Some (f a)) (g m)) ≡ test m)
    → (ms : List ℕ) → is_some (option_and_then (λ a. Some (f a)) (option_and_then g (only ms))) ≡ is_one test ms
some-only g f test same [] = refl
some-only g f test same (m ∷ []) = same m
some-only g f test same (m ∷ (n ∷ ms)) = refl

module _ {F : Type 0} {b : Base F} (laws : BaseLaws b) where
  pub count_itself : (kind m : ℕ) → m < 2 → encoding b (count_shape b.ring) kind (m ∷ []) ≡ Some (m ∷ [])
  count_itself kind m h =
      let t : nat_lt m 2 ≡ true = grind (arith, nat_tests) in
      ap (λ t. option_and_then (λ x. Some (map b.number ((count_shape b.ring).truncate x))) (if t then Some (bit b.ring (nat_eq m 1) ∷ []) else None)) t
      ∙ ap (λ x. Some (b.number x ∷ [])) (bit-residue laws.laws laws.residues laws.is_ring m h) ∙ ap (λ n. Some (n ∷ [])) (number-small laws.residues m (let l : 1 < b.modulus = laws.residues.large in omega arith))

  pub sum_itself : (kind bits m : ℕ) → m < 2 ^ bits → 2 ^ bits ≤ b.modulus → encoding b (sum_shape b.ring bits) kind (m ∷ []) ≡ Some (m ∷ [])
  sum_itself kind bits m h small =
      let t : nat_lt m (2 ^ bits) ≡ true = grind (arith, nat_tests) in
      ap (λ t. option_and_then (λ x. Some (map b.number ((sum_shape b.ring bits).truncate x))) (if t then Some (binary b.ring bits m) else None)) t
      ∙ ap (λ y. Some (b.number y ∷ [])) (number-binary laws.laws laws.residues laws.is_ring bits m)
      ∙ ap (λ n. Some (n ∷ [])) (ap (λ n. b.number (b.residue n)) (mod-eq_of_lt h) ∙ number-small laws.residues m (omega arith))

  number-bit : (t : Bool) → b.number (bit b.ring t) ≡ (if t then 1 else 0)
  number-bit true = ap b.number (unit-residue laws.laws laws.residues laws.is_ring) ∙ number-small laws.residues 1 laws.residues.large
  number-bit false = ap b.number (nought-residue laws.laws laws.residues laws.is_ring) ∙ number-small laws.residues 0 (let l : 1 < b.modulus = laws.residues.large in omega arith)

  numbers-one_hot : (place : ℕ) (xs : List ℕ) → map b.number (map (λ i. bit b.ring (nat_eq i place)) xs) ≡ map (λ i. if nat_eq i place then 1 else 0) xs
  numbers-one_hot place [] = refl
  numbers-one_hot place (i ∷ xs) =
      ap (λ n. n ∷ map b.number (map (λ i. bit b.ring (nat_eq i place)) xs)) (number-bit (nat_eq i place)) ∙ ap (λ l. (if nat_eq i place then 1 else 0) ∷ l) (numbers-one_hot place xs)

  pub histogram_itself : (kind : ℕ) (bounds : List ℕ) (m : ℕ) → encoding b (histogram_shape b.ring bounds) kind (m ∷ []) ≡ Some (one_at (length bounds + 1) (bucket bounds m))
  histogram_itself kind bounds m = ap Some (numbers-one_hot (bucket bounds m) (range_with_len 0 (length bounds + 1)))

  pub vector_itself : (kind len bits : ℕ) (ms : List ℕ) → 2 ^ bits ≤ b.modulus → are_numbers len bits ms ≡ true → encoding b (vector_shape b.ring len bits) kind ms ≡ Some ms
  vector_itself kind len bits ms room t =
      let x : List F = bits_of_list b.ring bits ms in
      let whole : (if are_numbers len bits ms then Some x else None) ≡ Some x = ap (λ t. if t then Some x else None) t in
      ap (option_and_then (λ x. Some (map b.number ((vector_shape b.ring len bits).truncate x)))) whole
      ∙ ap Some (list_numbers laws.laws laws.residues laws.is_ring len bits ms x room whole)

  pub count_some : (kind : ℕ) (ms : List ℕ) → is_some (encoding b (count_shape b.ring) kind ms) ≡ is_one (λ m. nat_lt m 2) ms
  count_some kind ms =
      let numbers : List F → List ℕ = λ x. map b.number ((count_shape b.ring).truncate x) in
      some-only (count_encoding b.ring) numbers (λ m. nat_lt m 2) (λ m. some-if (nat_lt m 2) (bit b.ring (nat_eq m 1) ∷ []) numbers) ms

  pub sum_some : (kind bits : ℕ) (ms : List ℕ) → is_some (encoding b (sum_shape b.ring bits) kind ms) ≡ is_one (λ m. nat_lt m (2 ^ bits)) ms
  sum_some kind bits ms =
      let numbers : List F → List ℕ = λ x. map b.number ((sum_shape b.ring bits).truncate x) in
      some-only (sum_encoding b.ring bits) numbers (λ m. nat_lt m (2 ^ bits)) (λ m. some-if (nat_lt m (2 ^ bits)) (binary b.ring bits m) numbers) ms

  pub histogram_some : (kind : ℕ) (bounds ms : List ℕ) → is_some (encoding b (histogram_shape b.ring bounds) kind ms) ≡ is_one (λ m. true) ms
  histogram_some kind bounds ms = some-only (histogram_encoding b.ring bounds) (λ x. map b.number x) (λ m. true) (λ m. refl) ms

  pub vector_some : (kind len bits : ℕ) (ms : List ℕ) → is_some (encoding b (vector_shape b.ring len bits) kind ms) ≡ are_numbers len bits ms
  vector_some kind len bits ms = some-if (are_numbers len bits ms) (bits_of_list b.ring bits ms) (λ x. map b.number ((vector_shape b.ring len bits).truncate x))

pub count_vector : (m : ℕ) → m < 2 → (functions_of_kind Count).encoding (m ∷ []) ≡ Some (m ∷ [])
count_vector m small = count_itself base64_laws 0 m small

pub sum_vector : (bits m : ℕ) → bits ≤ 64 → m < 2 ^ bits → (functions_of_kind (Sum bits)).encoding (m ∷ []) ≡ Some (m ∷ [])
sum_vector bits m few small =
    let power : 2 ^ bits ≤ 2 ^ 64 = pow-le-pow_right {n = 2} (lit≤ tt) few in
    sum_itself base128_laws 1 bits m small (le_trans power (lit≤ tt))

pub histogram_vector : (bounds : List ℕ) (m : ℕ) → (functions_of_kind (Histogram bounds)).encoding (m ∷ []) ≡ Some (one_at (length bounds + 1) (bucket bounds m))
histogram_vector bounds m = histogram_itself base128_laws 2 bounds m

pub list_vector : (len bits : ℕ) (ms : List ℕ) → bits ≤ 32 → is_measurement (Vector len bits) ms ≡ true → (functions_of_kind (Vector len bits)).encoding ms ≡ Some ms
list_vector len bits ms few t =
    let power : 2 ^ bits ≤ 2 ^ 32 = pow-le-pow_right {n = 2} (lit≤ tt) few in
    vector_itself base128_laws 3 len bits ms (le_trans power (lit≤ tt)) t

-- a list has a vector exactly where it is a measurement
pub of_kind : (kind : Kind) (ms : List ℕ) → is_some ((functions_of_kind kind).encoding ms) ≡ is_measurement kind ms
of_kind Count ms = count_some base64_laws 0 ms
of_kind (Sum bits) ms = sum_some base128_laws 1 bits ms
of_kind (Histogram bounds) ms = histogram_some base128_laws 2 bounds ms
of_kind (Vector len bits) ms = vector_some base128_laws 3 len bits ms
