-- Neighbours that rise: the test of each pair, the definition that computes, and the fact agree; so do the two forms
-- of the ranges of kinds.
use Rattle.std.proofs.Common.{◌≡◌, ℕ, zero, suc, ◌*◌, ◌<◌, ◌≤◌, List, [], ◌∷◌, length, Bool, true, false, IsTrue, ◌↔◌, sym, ap, ◌∙◌, refl, subst, arith, get_or}
use Rattle.std.specs.Prelude.{◌&&◌, nat_le, nat_lt}
use Rattle.std.specs.List.{IsAllAdjacentAnswer}
use Rattle.std.specs.List.Sorted.{IsStrictlyIncreasing}
use Rattle.std.proofs.lemmas.Bool.{and_from, and_parts}
use Rattle.std.proofs.lemmas.Bool.Decides.{nat_tests}
use native.Mathlib.Numerals.{add-one}
use Rattle.vdaf_api.specs.declared.kind.Kind.{Kind}
use Rattle.vdaf_api.specs.declared.kind.Kind.TheVariants.{Count, Sum, Histogram, Vector}
use Rattle.vdaf_api.specs.declared.kind.TheConstants.{MOST_BITS, MOST_BOUNDS, MOST_INPUT, MOST_NUMBER_BITS, MOST_NUMBERS}
use Rattle.vdaf_api.specs.Kind.{ascends_from, ascends, is_kind, IsKind}

-- each pair of neighbours passes the test
abbrev Rises : List ℕ → Type 0
Rises xs = (k : ℕ) → suc k < length xs → nat_lt (get_or xs k 0) (get_or xs (suc k) 0) ≡ true

ascends_from-rises : (x : ℕ) (xs : List ℕ) → Rises (x ∷ xs) → ascends_from x xs ≡ true
ascends_from-rises x [] h = refl
ascends_from-rises x (y ∷ ys) h = and_from (nat_lt x y) (ascends_from y ys) (h 0 (omega arith)) (ascends_from-rises y ys (λ k within. h (suc k) (omega arith)))

rises-ascends_from : (x : ℕ) (xs : List ℕ) → ascends_from x xs ≡ true → Rises (x ∷ xs)
rises-ascends_from x [] e k within = absurd (omega arith)
rises-ascends_from x (y ∷ ys) e zero within = (and_parts (nat_lt x y) (ascends_from y ys) e).0
rises-ascends_from x (y ∷ ys) e (suc k) within = rises-ascends_from y ys (and_parts (nat_lt x y) (ascends_from y ys) e).1 k (omega arith)

ascends-rises : (xs : List ℕ) → Rises xs → ascends xs ≡ true
ascends-rises [] h = refl
ascends-rises (x ∷ xs) h = ascends_from-rises x xs h

rises-ascends : (xs : List ℕ) → ascends xs ≡ true → Rises xs
rises-ascends [] e k within = absurd (omega arith)
rises-ascends (x ∷ xs) e k within = rises-ascends_from x xs e k within

pub ascends-increasing : (xs : List ℕ) → IsStrictlyIncreasing xs → ascends xs ≡ true
ascends-increasing xs h = ascends-rises xs (λ k within.
    let below : get_or xs k 0 < get_or xs (suc k) 0 = subst (λ j. get_or xs k 0 < get_or xs j 0) (add-one k) (h k (omega arith)) in grind (arith, nat_tests))

pub increasing-ascends : (xs : List ℕ) → ascends xs ≡ true → IsStrictlyIncreasing xs
increasing-ascends xs e k within =
    let below : nat_lt (get_or xs k 0) (get_or xs (suc k) 0) ≡ true = rises-ascends xs e k (omega arith) in
    subst (λ j. get_or xs k 0 < get_or xs j 0) (sym (add-one k)) (grind (arith, nat_tests))

-- the answer of a test of each pair of neighbours
pub ascends-answer : (xs : List ℕ) (b : Bool) → IsAllAdjacentAnswer (λ x y b. b ≡ nat_lt x y) xs b → b ≡ ascends xs
ascends-answer xs true h = sym (ascends-rises xs (λ k within. ap (λ j. nat_lt (get_or xs k 0) (get_or xs j 0)) (sym (add-one k)) ∙ sym (h k 0 (omega arith))))
ascends-answer xs false h = go (ascends xs) refl
  where
    go : (t : Bool) → ascends xs ≡ t → false ≡ t
    go false e = refl
    go true e = h.2 0 ∙ ap (λ j. nat_lt (get_or xs h.0 0) (get_or xs j 0)) (add-one h.0) ∙ rises-ascends xs e h.0 (omega (arith, h.1))

at_most : (m n : ℕ) → nat_le m n ≡ true → m ≤ n
at_most m n t = grind (arith, nat_tests)

is_at_most : (m n : ℕ) → m ≤ n → nat_le m n ≡ true
is_at_most m n h = grind (arith, nat_tests)

-- the two forms of the ranges
pub is_kind-decides : (kind : Kind) → IsTrue (is_kind kind) ↔ IsKind kind
is_kind-decides Count = (λ t. tt, λ k. refl)
is_kind-decides (Sum bits) = (
  λ t. (let both = and_parts (nat_le 1 bits) (nat_le bits MOST_BITS) t in let first : nat_le 1 bits ≡ true = both.0 in let second : nat_le bits MOST_BITS ≡ true = both.1 in (grind (arith, nat_tests), grind (arith, nat_tests))),
  λ k. (let first : 1 ≤ bits = k.0 in let second : bits ≤ MOST_BITS = k.1 in and_from (nat_le 1 bits) (nat_le bits MOST_BITS) (grind (arith, nat_tests)) (grind (arith, nat_tests))),
)
is_kind-decides (Histogram bounds) = (
  λ t. (let all = and_parts (nat_le 1 (length bounds) && nat_le (length bounds) MOST_BOUNDS) (ascends bounds) t in
      let sizes = and_parts (nat_le 1 (length bounds)) (nat_le (length bounds) MOST_BOUNDS) all.0 in
      let first : nat_le 1 (length bounds) ≡ true = sizes.0 in
      let second : nat_le (length bounds) MOST_BOUNDS ≡ true = sizes.1 in
      record { some = grind (arith, nat_tests); few = grind (arith, nat_tests); ascending = increasing-ascends bounds all.1 }),
  λ k. (let first : 1 ≤ length bounds = k.some in
      let second : length bounds ≤ MOST_BOUNDS = k.few in
      and_from (nat_le 1 (length bounds) && nat_le (length bounds) MOST_BOUNDS) (ascends bounds)
      (and_from (nat_le 1 (length bounds)) (nat_le (length bounds) MOST_BOUNDS) (grind (arith, nat_tests)) (grind (arith, nat_tests)))
      (ascends-increasing bounds k.ascending)),
)
is_kind-decides (Vector len bits) = (
  λ t. (let all = and_parts (nat_le 1 len && nat_le len MOST_NUMBERS && (nat_le 1 bits && nat_le bits MOST_NUMBER_BITS)) (nat_le (len * bits) MOST_INPUT) t in
      let sizes = and_parts (nat_le 1 len && nat_le len MOST_NUMBERS) (nat_le 1 bits && nat_le bits MOST_NUMBER_BITS) all.0 in
      let lens = and_parts (nat_le 1 len) (nat_le len MOST_NUMBERS) sizes.0 in
      let both = and_parts (nat_le 1 bits) (nat_le bits MOST_NUMBER_BITS) sizes.1 in
      record {
        some_numbers = at_most 1 len lens.0;
        few_numbers = at_most len MOST_NUMBERS lens.1;
        some_bits = at_most 1 bits both.0;
        few_bits = at_most bits MOST_NUMBER_BITS both.1;
        short_input = at_most (len * bits) MOST_INPUT all.1;
      }),
  λ k. and_from (nat_le 1 len && nat_le len MOST_NUMBERS && (nat_le 1 bits && nat_le bits MOST_NUMBER_BITS)) (nat_le (len * bits) MOST_INPUT)
      (and_from (nat_le 1 len && nat_le len MOST_NUMBERS) (nat_le 1 bits && nat_le bits MOST_NUMBER_BITS)
      (and_from (nat_le 1 len) (nat_le len MOST_NUMBERS) (is_at_most 1 len k.some_numbers) (is_at_most len MOST_NUMBERS k.few_numbers))
      (and_from (nat_le 1 bits) (nat_le bits MOST_NUMBER_BITS) (is_at_most 1 bits k.some_bits) (is_at_most bits MOST_NUMBER_BITS k.few_bits)))
      (is_at_most (len * bits) MOST_INPUT k.short_input),
)
