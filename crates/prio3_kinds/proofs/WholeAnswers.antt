-- The sum of few measurements' vectors is that in whole numbers.
use Rattle.std.proofs.Common.{◌≡◌, ℕ, zero, suc, ◌+◌, ◌*◌, ◌^◌, ◌<◌, ◌≤◌, List, [], ◌∷◌, length, map, Bool, cond, true, false, ◌&&◌, Option, Some, refl, sym, ap, subst, ◌∙◌, arith, lit≤, le_trans}
use Rattle.std.specs.Prelude.{count_by, filter_map, nat_eq, nat_lt, slice_index_or}
use Rattle.std.specs.List.{All, cons_option, list_all, range_with_len, sum_by}
use Rattle.std.proofs.Math.Nat.{mul-le-mul, pow-le-pow_right}
use Rattle.std.proofs.lemmas.Bool.{and_parts, eqb-true, ltb-true}
use Rattle.std.proofs.lemmas.List.Elements.{All-cons, All-head, All-nil, All-tail}
use Rattle.std.proofs.lemmas.List.FromFn.{get_or-map-range_with_len, length-map-range_with_len}
use Rattle.std.proofs.lemmas.List.Sums.{sum_by-cons, sum_by-le}
use Rattle.field64.specs.Modulus.{modulus}
use Rattle.field128.specs.Modulus as wide_modulus
use Rattle.field_laws.specs.Vector.{sum_of}
use Rattle.field_laws.specs.WholeSums.{HaveEntries, entry_sum, whole_sum}
use Rattle.field_laws.proofs.WholeSumLaws.{sum_of-below}
use Rattle.flp_circuits.specs.Kinds.{bucket}
use Rattle.vdaf_api.specs.Kind.{IsKind}
use Rattle.vdaf_api.specs.Totals.{total_numbers}
use Rattle.vdaf_api.specs.declared.answer.Answer.TheVariants as answer
use Rattle.vdaf_api.specs.declared.kind.Kind.{Kind}
use Rattle.vdaf_api.specs.declared.kind.Kind.TheVariants.{Count, Sum, Histogram, Vector}
use Rattle.prio3_kinds.proofs.Itself.{count_vector, histogram_vector, list_vector, sum_vector}
use Rattle.prio3_kinds.specs.Kinds.{answer_of, functions_of_kind, is_measurement, one_at}
use Rattle.prio3_kinds.specs.WholeNumbers.{COUNTS_END, fallen, number_at, whole_answer}

-- ---- vectors of measurements

-- each number of a range agrees
agreeing-range : (f g : ℕ → ℕ) (k n : ℕ) → ((i : ℕ) → i < k + n → f i ≡ g i) → map f (range_with_len k n) ≡ map g (range_with_len k n)
agreeing-range f g k zero same = refl
agreeing-range f g k (suc n) same =
    ap (λ (x : ℕ). x ∷ map f (range_with_len (k + 1) n)) (same k (omega arith))
    ∙ ap (λ (l : List ℕ). g k ∷ l) (agreeing-range f g (k + 1) n (λ i lt. same i (omega (arith, lt))))

-- measurements of a kind have these vectors, each of n entries that are at most `most`
record HaveVectors (kind : Kind) (own : List ℕ → List ℕ) (n most : ℕ) : Type 0 where
  is : (ms : List ℕ) → is_measurement kind ms ≡ true → (functions_of_kind kind).encoding ms ≡ Some (own ms)
  long : (ms : List ℕ) → is_measurement kind ms ≡ true → length (own ms) ≡ n
  small : (place : ℕ) (ms : List ℕ) → place < n → is_measurement kind ms ≡ true → slice_index_or (own ms) place 0 ≤ most

module _ (kind : Kind) (own : List ℕ → List ℕ) (n most : ℕ) (have : HaveVectors kind own n most) where
  abbrev IsOne : List ℕ → Type 0
  IsOne ms = is_measurement kind ms ≡ true

  vectors-are : (xs : List (List ℕ)) → All IsOne xs → filter_map (functions_of_kind kind).encoding xs ≡ map own xs
  vectors-are [] h = refl
  vectors-are (ms ∷ xs) h =
      ap (λ o. cons_option o (filter_map (functions_of_kind kind).encoding xs)) (have.is ms (All-head IsOne ms xs h))
      ∙ ap (λ l. own ms ∷ l) (vectors-are xs (All-tail IsOne ms xs h))

  have-entries : (xs : List (List ℕ)) → All IsOne xs → HaveEntries n (map own xs)
  have-entries [] h = All-nil (λ v. length v ≡ n)
  have-entries (ms ∷ xs) h =
      All-cons (λ v. length v ≡ n) (own ms) (map own xs) (have.long ms (All-head IsOne ms xs h)) (have-entries xs (All-tail IsOne ms xs h))

  -- the sum of the entries at a place is that of these numbers
  entries-are : (place : ℕ) (number : List ℕ → ℕ) → ((ms : List ℕ) → is_measurement kind ms ≡ true → slice_index_or (own ms) place 0 ≡ number ms)
      → (xs : List (List ℕ)) → All IsOne xs → entry_sum (map own xs) place ≡ sum_by number xs
  entries-are place number same [] h = refl
  entries-are place number same (ms ∷ xs) h =
      omega (
        arith,
        sum_by-cons (λ (v : List ℕ). slice_index_or v place 0) (own ms) (map own xs),
        sum_by-cons number ms xs,
        same ms (All-head IsOne ms xs h),
        entries-are place number same xs (All-tail IsOne ms xs h),
      )

  each-small : (place : ℕ) → place < n → (xs : List (List ℕ)) → All IsOne xs → All (λ ms. slice_index_or (own ms) place 0 ≤ most) xs
  each-small place inside [] h = All-nil (λ ms. slice_index_or (own ms) place 0 ≤ most)
  each-small place inside (ms ∷ xs) h =
      All-cons (λ ms. slice_index_or (own ms) place 0 ≤ most) ms xs (have.small place ms inside (All-head IsOne ms xs h)) (each-small place inside xs (All-tail IsOne ms xs h))

  -- few measurements have the sum in whole numbers
  whole-total : (p : ℕ) (xs : List (List ℕ)) → All IsOne xs → length xs * most < p
      → sum_of p n (filter_map (functions_of_kind kind).encoding xs) ≡ whole_sum n (map own xs)
  whole-total p xs h few =
      ap (sum_of p n) (vectors-are xs h)
      ∙ sum_of-below p n (map own xs) (have-entries xs h) (λ place inside.
      omega (
        arith,
        few,
        entries-are place (λ ms. slice_index_or (own ms) place 0) (λ ms is. refl) xs h,
        sum_by-le (λ ms. slice_index_or (own ms) place 0) most xs (each-small place inside xs h),
      ))

-- ---- each kind

-- the answer of the sum of the measurements' vectors is that in whole numbers
abbrev pub IsWhole : Kind → List (List ℕ) → Type 0
IsWhole kind xs =
    let f = functions_of_kind kind in
    f.answer (total_numbers f.space (filter_map f.encoding xs)) ≡ whole_answer kind xs

abbrev AreMeasurements : Kind → List (List ℕ) → Type 0
AreMeasurements kind xs = All (λ ms. is_measurement kind ms ≡ true) xs

-- the first number alone
abbrev alone : List ℕ → List ℕ
alone ms = number_at 0 ms ∷ []

-- its one entry is at most what the number is
alone-small : (most place : ℕ) (ms : List ℕ) → place < 1 → number_at 0 ms ≤ most → slice_index_or (alone ms) place 0 ≤ most
alone-small most zero ms inside le = le
alone-small most (suc place) ms inside le = absurd (omega (arith, inside))

-- so many measurements of at most so much stay below the larger modulus
wide-room : (count most : ℕ) → count < COUNTS_END → most ≤ 2 ^ 64 → count * most < wide_modulus.modulus
wide-room count most few le =
    let no_more : count ≤ COUNTS_END = omega (arith, few) in
    let many : count * most ≤ COUNTS_END * 2 ^ 64 = mul-le-mul no_more le in
    let room : suc (COUNTS_END * 2 ^ 64) ≤ wide_modulus.modulus = lit≤ tt in
    le_trans (next many) room
  where
    next : {a b : ℕ} → a ≤ b → suc a ≤ suc b
    next le = omega (arith, le)

count-whole : (xs : List (List ℕ)) → AreMeasurements Count xs → length xs < COUNTS_END → IsWhole Count xs
count-whole xs h few =
    let room : COUNTS_END ≤ modulus = lit≤ tt in
    ap (answer_of Count) (whole-total Count alone 1 1 have modulus xs h (omega (arith, few, room)))
    ∙ ap answer.Count (entries-are Count alone 1 1 have 0 (λ ms. cond (nat_eq 1 (number_at 0 ms)) 1 0) one xs h)
  where
    bit : (m : ℕ) → m < 2 → m ≡ cond (nat_eq 1 m) 1 0
    bit zero lt = refl
    bit (suc zero) lt = refl
    bit (suc (suc m)) lt = absurd (omega (arith, lt))

    below : (ms : List ℕ) → is_measurement Count ms ≡ true → number_at 0 ms < 2
    below [] e = absurd cc
    below (m ∷ []) e = ltb-true m 2 e
    below (m ∷ (k ∷ ms)) e = absurd cc

    one : (ms : List ℕ) → is_measurement Count ms ≡ true → number_at 0 ms ≡ cond (nat_eq 1 (number_at 0 ms)) 1 0
    one ms e = bit (number_at 0 ms) (below ms e)

    vector : (ms : List ℕ) → is_measurement Count ms ≡ true → (functions_of_kind Count).encoding ms ≡ Some (alone ms)
    vector [] e = absurd cc
    vector (m ∷ []) e = count_vector m (ltb-true m 2 e)
    vector (m ∷ (k ∷ ms)) e = absurd cc

    have : HaveVectors Count alone 1 1
    have = record {
      is = vector;
      long = λ ms e. refl;
      small = λ place ms inside e. alone-small 1 place ms inside (omega (arith, below ms e));
    }

sum-whole : (bits : ℕ) (xs : List (List ℕ)) → IsKind (Sum bits) → AreMeasurements (Sum bits) xs → length xs < COUNTS_END → IsWhole (Sum bits) xs
sum-whole bits xs ranges h few =
    ap (answer_of (Sum bits)) (whole-total (Sum bits) alone 1 (2 ^ bits) have wide_modulus.modulus xs h (wide-room (length xs) (2 ^ bits) few power))
    ∙ ap answer.Sum (entries-are (Sum bits) alone 1 (2 ^ bits) have 0 (number_at 0) (λ ms e. refl) xs h)
  where
    power : 2 ^ bits ≤ 2 ^ 64
    power = pow-le-pow_right {n = 2} (lit≤ tt) ranges.1

    below : (ms : List ℕ) → is_measurement (Sum bits) ms ≡ true → number_at 0 ms < 2 ^ bits
    below [] e = absurd cc
    below (m ∷ []) e = ltb-true m (2 ^ bits) e
    below (m ∷ (k ∷ ms)) e = absurd cc

    vector : (ms : List ℕ) → is_measurement (Sum bits) ms ≡ true → (functions_of_kind (Sum bits)).encoding ms ≡ Some (alone ms)
    vector [] e = absurd cc
    vector (m ∷ []) e = sum_vector bits m ranges.1 (ltb-true m (2 ^ bits) e)
    vector (m ∷ (k ∷ ms)) e = absurd cc

    have : HaveVectors (Sum bits) alone 1 (2 ^ bits)
    have = record {
      is = vector;
      long = λ ms e. refl;
      small = λ place ms inside e. alone-small (2 ^ bits) place ms inside (le_of (below ms e));
    }
      where
        le_of : {a b : ℕ} → a < b → a ≤ b
        le_of lt = omega (arith, lt)

histogram-whole : (bounds : List ℕ) (xs : List (List ℕ)) → AreMeasurements (Histogram bounds) xs → length xs < COUNTS_END → IsWhole (Histogram bounds) xs
histogram-whole bounds xs h few =
    let room : COUNTS_END ≤ wide_modulus.modulus = lit≤ tt in
    ap (answer_of (Histogram bounds)) (whole-total (Histogram bounds) hot (length bounds + 1) 1 have wide_modulus.modulus xs h (omega (arith, few, room)))
    ∙ ap answer.Histogram (agreeing-range (entry_sum (map hot xs)) (fallen bounds xs) 0 (length bounds + 1) (λ place inside.
    entries-are (Histogram bounds) hot (length bounds + 1) 1 have place (λ ms. cond (nat_eq place (bucket bounds (number_at 0 ms))) 1 0)
    (λ ms e. entry place ms (omega (arith, inside))) xs h))
  where
    hot : List ℕ → List ℕ
    hot ms = one_at (length bounds + 1) (bucket bounds (number_at 0 ms))

    entry : (place : ℕ) (ms : List ℕ) → place < length bounds + 1 → slice_index_or (hot ms) place 0 ≡ cond (nat_eq place (bucket bounds (number_at 0 ms))) 1 0
    entry place ms inside =
        get_or-map-range_with_len (λ i. cond (nat_eq i (bucket bounds (number_at 0 ms))) 1 0) 0 (length bounds + 1) place place 0 inside (omega arith)

    at_most_one : (b : Bool) → cond b 1 0 ≤ 1
    at_most_one true = omega arith
    at_most_one false = omega arith

    vector : (ms : List ℕ) → is_measurement (Histogram bounds) ms ≡ true → (functions_of_kind (Histogram bounds)).encoding ms ≡ Some (hot ms)
    vector [] e = absurd cc
    vector (m ∷ []) e = histogram_vector bounds m
    vector (m ∷ (k ∷ ms)) e = absurd cc

    have : HaveVectors (Histogram bounds) hot (length bounds + 1) 1
    have = record {
      is = vector;
      long = λ ms e. length-map-range_with_len (λ i. cond (nat_eq i (bucket bounds (number_at 0 ms))) 1 0) 0 (length bounds + 1);
      small = λ place ms inside e. omega (arith, entry place ms inside, at_most_one (nat_eq place (bucket bounds (number_at 0 ms))));
    }

vector-whole : (len bits : ℕ) (xs : List (List ℕ)) → IsKind (Vector len bits) → AreMeasurements (Vector len bits) xs → length xs < COUNTS_END → IsWhole (Vector len bits) xs
vector-whole len bits xs ranges h few =
    ap (answer_of (Vector len bits)) (whole-total (Vector len bits) own len (2 ^ bits) have wide_modulus.modulus xs h (wide-room (length xs) (2 ^ bits) few power))
    ∙ ap answer.Vector (agreeing-range (entry_sum (map own xs)) (λ place. sum_by (number_at place) xs) 0 len (λ place inside.
    entries-are (Vector len bits) own len (2 ^ bits) have place (number_at place) (λ ms e. refl) xs h))
  where
    own : List ℕ → List ℕ
    own ms = ms

    few_bits : bits ≤ 32
    few_bits = ranges.few_bits

    bits_below : bits ≤ 64
    bits_below = le_trans few_bits (lit≤ tt)

    power : 2 ^ bits ≤ 2 ^ 64
    power = pow-le-pow_right {n = 2} (lit≤ tt) bits_below

    each : (place : ℕ) (ms : List ℕ) → list_all (λ m. nat_lt m (2 ^ bits)) ms ≡ true → slice_index_or ms place 0 ≤ 2 ^ bits
    each place [] e = omega arith
    each zero (m ∷ ms) e = le_of (ltb-true m (2 ^ bits) (and_parts (nat_lt m (2 ^ bits)) (list_all (λ m. nat_lt m (2 ^ bits)) ms) e).0)
      where
        le_of : {a b : ℕ} → a < b → a ≤ b
        le_of lt = omega (arith, lt)
    each (suc place) (m ∷ ms) e = each place ms (and_parts (nat_lt m (2 ^ bits)) (list_all (λ m. nat_lt m (2 ^ bits)) ms) e).1

    have : HaveVectors (Vector len bits) own len (2 ^ bits)
    have = record {
      is = λ ms e. list_vector len bits ms few_bits e;
      long = λ ms e. eqb-true (length ms) len (and_parts (nat_eq (length ms) len) (list_all (λ m. nat_lt m (2 ^ bits)) ms) e).0;
      small = λ place ms inside e. each place ms (and_parts (nat_eq (length ms) len) (list_all (λ m. nat_lt m (2 ^ bits)) ms) e).1;
    }

pub whole-numbers : (kind : Kind) (xs : List (List ℕ)) → IsKind kind → AreMeasurements kind xs → length xs < COUNTS_END → IsWhole kind xs
whole-numbers Count xs ranges h few = count-whole xs h few
whole-numbers (Sum bits) xs ranges h few = sum-whole bits xs ranges h few
whole-numbers (Histogram bounds) xs ranges h few = histogram-whole bounds xs h few
whole-numbers (Vector len bits) xs ranges h few = vector-whole len bits xs ranges h few
