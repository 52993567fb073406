-- The sum of vectors in whole numbers, entry by entry.
use Rattle.std.specs.Prelude.{◌≡◌, ℕ, List, length, map, slice_index_or}
use Rattle.std.specs.List.{range_with_len, All, sum_by}

-- each of the vectors has n entries
abbrev pub HaveEntries : ℕ → List (List ℕ) → Type 0
HaveEntries n vectors = All (λ v. length v ≡ n) vectors

-- the sum of the entries at a place, in whole numbers
abbrev pub entry_sum : List (List ℕ) → ℕ → ℕ
entry_sum vectors place = sum_by (λ v. slice_index_or v place 0) vectors

-- the sums of vectors of n entries in whole numbers, one for each place
abbrev pub whole_sum : ℕ → List (List ℕ) → List ℕ
whole_sum n vectors = map (entry_sum vectors) (range_with_len 0 n)
