-- The buckets of spans.
use Rattle.std.proofs.Common.{◌≡◌, ◌⊎◌, inl, inr, ℕ, ◌+◌, ◌-◌, ◌*◌, ◌%◌, ◌<◌, ◌≤◌, Bool, true, false, ◌||◌, IsTrue, nat_eq, List, [], ◌∷◌, map, length, get_or, sym, ap, subst, ◌∙◌, refl, arith}
use Rattle.std.proofs.lemmas.Bool.{and_parts, cases_eq, cases_lt, cases_order, eq-eqb, eqb-true, leb-true, ne_eqb, or_cases, or_left, or_right}
use Rattle.std.proofs.lemmas.List.Folds.{Any-from_list_any, list_any_at}
use Rattle.std.proofs.lemmas.List.FromFn.{get_or-range_with_len, length-range_with_len}
use Rattle.std.proofs.lemmas.Nat.{mul-le, row_fits}
use Rattle.std.proofs.Math.Nat.{add-mul, add-mul-mod_self_right}
use Rattle.std.specs.List.{list_any, range_with_len}
use Rattle.dap_bytes.specs.declared.limits.TheConstants.{LATEST_TIME}
use Rattle.dap_bytes.specs.declared.span.Span.{Span}
use Rattle.dap_bytes.specs.Spans.{ShareSome, bucket_at, holds_bucket, one_bucket, passes_start, shares_bucket}

or-false : (x : Bool) → (x || false) ≡ x
or-false true = refl
or-false false = refl

or-same : (x : Bool) → (x || x) ≡ x
or-same true = refl
or-same false = refl

nat_eq-swap : (m n : ℕ) → nat_eq m n ≡ nat_eq n m
nat_eq-swap m n =
    elim (cases_eq m n) [
      | inl same ↦ eq-eqb m n same ∙ sym (eq-eqb n m (sym same))
      | inr other ↦ ne_eqb m n other ∙ sym (ne_eqb n m (λ same. other (sym same)))
    ]

any-map : {X Y : Type 0} (p : Y → Bool) (f : X → Y) (xs : List X) → list_any p (map f xs) ≡ list_any (λ x. p (f x)) xs
any-map p f [] = refl
any-map p f (x ∷ xs) = ap (λ b. p (f x) || b) (any-map p f xs)

-- the same, by the numbers of the buckets
pub holds_bucket-numbers : (span : Span) (precision start : ℕ)
    → list_any (λ i. nat_eq start (bucket_at span precision i)) (range_with_len 0 span.buckets) ≡ holds_bucket span precision start
holds_bucket-numbers span precision start = sym (any-map (nat_eq start) (bucket_at span precision) (range_with_len 0 span.buckets))

-- a bucket by its number
pub held_at : (span : Span) (precision i : ℕ) → i < span.buckets → IsTrue (holds_bucket span precision (bucket_at span precision i))
held_at span precision i within =
    let numbers = range_with_len 0 span.buckets in
    let start = bucket_at span precision i in
    let at : get_or numbers i 0 ≡ i = omega (arith, get_or-range_with_len 0 span.buckets i 0 within) in
    sym (holds_bucket-numbers span precision start)
    ∙ list_any_at (λ k. nat_eq start (bucket_at span precision k)) numbers i 0 (rw (length-range_with_len 0 span.buckets) within)
    (rw at (eq-eqb start start refl))

pub holds_bucket-from : (span : Span) (precision start : ℕ) → (i : ℕ) × (i < span.buckets) × (start ≡ bucket_at span precision i)
    → IsTrue (holds_bucket span precision start)
holds_bucket-from span precision start h =
    subst (λ n. IsTrue (holds_bucket span precision n)) (sym h.2) (held_at span precision h.0 h.1)

-- a held bucket has a number
pub holds_bucket-to : (span : Span) (precision start : ℕ) → IsTrue (holds_bucket span precision start)
    → (i : ℕ) × (i < span.buckets) × (start ≡ bucket_at span precision i)
holds_bucket-to span precision start held =
    let numbers = range_with_len 0 span.buckets in
    let found = Any-from_list_any (λ i. nat_eq start (bucket_at span precision i)) numbers (holds_bucket-numbers span precision start ∙ held) in
    let within : found.0 < span.buckets = subst (λ n. found.0 < n) (length-range_with_len 0 span.buckets) found.2 in
    let same : found.0 ≡ found.1 = omega (arith, get_or-range_with_len 0 span.buckets found.0 found.1 within, found.3) in
    (found.1, subst (λ i. i < span.buckets) same within, eqb-true start (bucket_at span precision found.1) found.4)

-- buckets of other numbers are others
pub bucket_at-same : (span : Span) (precision i j : ℕ) → 0 < precision → bucket_at span precision i ≡ bucket_at span precision j → i ≡ j
bucket_at-same span precision i j positive same =
    elim (cases_order i j) [
      | inl equal ↦ equal
      | inr (inl below) ↦ absurd (omega (arith, row_fits i precision j precision below (omega arith)))
      | inr (inr above) ↦ absurd (omega (arith, row_fits j precision i precision above (omega arith)))
    ]

or-swap : (x y : Bool) → (x || y) ≡ (y || x)
or-swap true true = refl
or-swap true false = refl
or-swap false true = refl
or-swap false false = refl

pub shares_bucket-comm : (a b : Span) (precision : ℕ) → shares_bucket a b precision ≡ shares_bucket b a precision
shares_bucket-comm a b precision = or-swap (holds_bucket a precision b.start) (holds_bucket b precision a.start)

-- where one starts in the other, that start is a bucket of both
starts_within : (a b : Span) (precision : ℕ) → 1 ≤ a.buckets → IsTrue (holds_bucket b precision a.start) → ShareSome a b precision
starts_within a b precision some held =
    let first : bucket_at a precision 0 ≡ a.start = omega arith in
    (a.start, subst (λ start. IsTrue (holds_bucket a precision start)) first (held_at a precision 0 some), held)

-- where a bucket of both has the lower number in a, then a starts in b
later_start : (a b : Span) (precision i j : ℕ) → i ≤ j → j < b.buckets → bucket_at a precision i ≡ bucket_at b precision j
    → IsTrue (holds_bucket b precision a.start)
later_start a b precision i j below within same =
    let back : j - i + i ≡ j = omega arith in
    let product : (j - i) * precision + i * precision ≡ j * precision = sym (add-mul (j - i) i precision) ∙ ap (λ n. n * precision) back in
    let start : bucket_at b precision (j - i) ≡ a.start = omega (arith, product, same) in
    subst (λ n. IsTrue (holds_bucket b precision n)) start (held_at b precision (j - i) (omega arith))

-- two spans share a bucket where some bucket is in both
pub shares_bucket-from : (a b : Span) (precision : ℕ) → ShareSome a b precision → IsTrue (shares_bucket a b precision)
shares_bucket-from a b precision h =
    let in_a = holds_bucket-to a precision h.0 h.1 in
    let in_b = holds_bucket-to b precision h.0 h.2 in
    let i = in_a.0 in
    let j = in_b.0 in
    let same : bucket_at a precision i ≡ bucket_at b precision j = sym in_a.2 ∙ in_b.2 in
    let a_in_b = holds_bucket b precision a.start in
    let b_in_a = holds_bucket a precision b.start in
    elim (cases_lt i j) [
      | inl lower ↦ or_right b_in_a a_in_b (later_start a b precision i j (omega arith) in_b.1 same)
      | inr higher ↦ or_left b_in_a a_in_b (later_start b a precision j i higher in_a.1 (sym same))
    ]

-- and nowhere else
pub shares_bucket-to : (a b : Span) (precision : ℕ) → 1 ≤ a.buckets → 1 ≤ b.buckets → IsTrue (shares_bucket a b precision) → ShareSome a b precision
shares_bucket-to a b precision some_a some_b shared =
    elim (or_cases (holds_bucket a precision b.start) (holds_bucket b precision a.start) shared) [
      | inl b_in_a ↦ let h = starts_within b a precision some_b b_in_a in (h.0, h.2, h.1)
      | inr a_in_b ↦ starts_within a b precision some_a a_in_b
    ]

one_held : (s t precision : ℕ) → holds_bucket (one_bucket s) precision t ≡ nat_eq t s
one_held s t precision =
    let first : s + 0 * precision ≡ s = omega arith in
    or-false (nat_eq t (s + 0 * precision)) ∙ ap (nat_eq t) first

-- one bucket each
pub shares_bucket-one : (s t precision : ℕ) → shares_bucket (one_bucket s) (one_bucket t) precision ≡ nat_eq s t
shares_bucket-one s t precision =
    ap (λ x. x || holds_bucket (one_bucket t) precision s) (one_held s t precision)
    ∙ ap (λ x. nat_eq t s || x) (one_held t s precision)
    ∙ ap (λ x. x || nat_eq s t) (nat_eq-swap t s) ∙ or-same (nat_eq s t)

-- the buckets of a span that passes are multiples of the precision, and times
pub passed_buckets : (span : Span) (precision start : ℕ) → 0 < precision → IsTrue (passes_start span precision) → IsTrue (holds_bucket span precision start)
    → (start % precision ≡ 0) × (start ≤ LATEST_TIME)
passed_buckets span precision start positive passed held =
    let parts = and_parts _ _ passed in
    let k = holds_bucket-to span precision start held in
    let multiple : start % precision ≡ 0 = ap (λ n. n % precision) k.2 ∙ add-mul-mod_self_right span.start k.0 precision ∙ eqb-true _ _ parts.0 in
    let product : k.0 * precision ≤ (span.buckets - 1) * precision = mul-le k.0 precision (span.buckets - 1) precision (omega arith) (omega arith) in
    (multiple, omega (arith, k.2, product, leb-true _ _ parts.1))
