-- The tables hold what the definitions say of each byte: every entry is computed and compared.
use Rattle.std.proofs.Common.{◌≡◌, ℕ, zero, suc, ◌<◌, Bool, true, false, ◌&&◌, ◌==◌, List, [], ◌∷◌, slice_index, refl, ap, subst, ◌∙◌, arith, inl, inr, eqb-true, not-suc-le-zero}
use Rattle.std.proofs.lemmas.Bool.{cases_lt, and_parts}
use Rattle.std.specs.Int.{w32, to_be_bytes}
use Rattle.aes_block.specs.Byte.{product, remainder, times, first_from, inverse, sub_byte}
use Rattle.aes_block.specs.Columns.{column_times}
use Rattle.aes_block.specs.declared.tables.TheConstants.{SUBSTITUTED, MIXED_0, MIXED_1, MIXED_2, MIXED_3}

-- each number below n passes
unfoldable all_below : (ℕ → Bool) → ℕ → Bool
all_below passes zero = true
all_below passes (suc n) = passes n && all_below passes n

all_below-at : (passes : ℕ → Bool) (n j : ℕ) → all_below passes n ≡ true → j < n → passes j ≡ true
unfolding all_below
all_below-at passes zero j h lt = absurd (not-suc-le-zero lt)
all_below-at passes (suc n) j h lt =
    let parts = and_parts (passes n) (all_below passes n) h in
    elim (cases_lt j n) [
      | inl below ↦ all_below-at passes n j parts.1 below
      | inr last ↦ let same : n ≡ j = omega arith in subst (λ k. passes k ≡ true) same parts.0
    ]

-- two lists are equal
unfoldable same_list : List ℕ → List ℕ → Bool
same_list [] [] = true
same_list [] (y ∷ ys) = false
same_list (x ∷ xs) [] = false
same_list (x ∷ xs) (y ∷ ys) = x == y && same_list xs ys

same_list-true : (xs ys : List ℕ) → same_list xs ys ≡ true → xs ≡ ys
unfolding same_list
same_list-true [] [] h = refl
same_list-true [] (y ∷ ys) h = absurd (cc)
same_list-true (x ∷ xs) [] h = absurd (cc)
same_list-true (x ∷ xs) (y ∷ ys) h =
    let parts = and_parts (x == y) (same_list xs ys) h in
    λ i. eqb-true x y parts.0 i ∷ same_list-true xs ys parts.1 i

every_substituted : all_below (λ b. slice_index SUBSTITUTED b == sub_byte b) 256 ≡ true
unfolding all_below product remainder times first_from inverse sub_byte
every_substituted = refl

pub substituted_is : (b : ℕ) → b < 256 → slice_index SUBSTITUTED b ≡ sub_byte b
substituted_is b lt = eqb-true _ _ (all_below-at _ 256 b every_substituted lt)

-- an entry of a table of MixColumns, by the table of SubBytes
abbrev IsMixed : ℕ → List ℕ → ℕ → Bool
IsMixed k table b = same_list (to_be_bytes w32 (slice_index table b)) (column_times k (slice_index SUBSTITUTED b))

mixed_is : (k : ℕ) (table : List ℕ) → all_below (IsMixed k table) 256 ≡ true → (b : ℕ) → b < 256 → to_be_bytes w32 (slice_index table b) ≡ column_times k (sub_byte b)
mixed_is k table every b lt =
    same_list-true _ _ (all_below-at (IsMixed k table) 256 b every lt) ∙ ap (column_times k) (substituted_is b lt)

every_mixed_0 : all_below (IsMixed 0 MIXED_0) 256 ≡ true
unfolding all_below same_list product remainder times
every_mixed_0 = refl

every_mixed_1 : all_below (IsMixed 1 MIXED_1) 256 ≡ true
unfolding all_below same_list product remainder times
every_mixed_1 = refl

every_mixed_2 : all_below (IsMixed 2 MIXED_2) 256 ≡ true
unfolding all_below same_list product remainder times
every_mixed_2 = refl

every_mixed_3 : all_below (IsMixed 3 MIXED_3) 256 ≡ true
unfolding all_below same_list product remainder times
every_mixed_3 = refl

pub mixed_0_is : (b : ℕ) → b < 256 → to_be_bytes w32 (slice_index MIXED_0 b) ≡ column_times 0 (sub_byte b)
mixed_0_is = mixed_is 0 MIXED_0 every_mixed_0

pub mixed_1_is : (b : ℕ) → b < 256 → to_be_bytes w32 (slice_index MIXED_1 b) ≡ column_times 1 (sub_byte b)
mixed_1_is = mixed_is 1 MIXED_1 every_mixed_1

pub mixed_2_is : (b : ℕ) → b < 256 → to_be_bytes w32 (slice_index MIXED_2 b) ≡ column_times 2 (sub_byte b)
mixed_2_is = mixed_is 2 MIXED_2 every_mixed_2

pub mixed_3_is : (b : ℕ) → b < 256 → to_be_bytes w32 (slice_index MIXED_3 b) ≡ column_times 3 (sub_byte b)
mixed_3_is = mixed_is 3 MIXED_3 every_mixed_3
