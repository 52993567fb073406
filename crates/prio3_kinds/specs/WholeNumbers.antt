-- The answers of measurements in whole numbers.
use Rattle.std.specs.Prelude.{ℕ, ◌+◌, ◌^◌, List, length, map, count_by, nat_eq, slice_index_or}
use Rattle.std.specs.List.{range_with_len, sum_by}
use Rattle.flp_circuits.specs.Kinds.{bucket}
use Rattle.vdaf_api.specs.declared.answer.Answer.{Answer}
use Rattle.vdaf_api.specs.declared.answer.Answer.TheVariants as answer
use Rattle.vdaf_api.specs.declared.kind.Kind.{Kind}
use Rattle.vdaf_api.specs.declared.kind.Kind.TheVariants.{Count, Sum, Histogram, Vector}

-- fewer measurements than this have sums below both moduli
abbrev pub COUNTS_END : ℕ
COUNTS_END = 2 ^ 25

-- the number of a measurement at a place, counted from 0
abbrev pub number_at : ℕ → List ℕ → ℕ
number_at place ms = slice_index_or ms place 0

-- how many of the measurements, of one number each, fall into the bucket at this place
abbrev pub fallen : List ℕ → List (List ℕ) → ℕ → ℕ
fallen bounds measurements place = count_by (λ ms. nat_eq place (bucket bounds (number_at 0 ms))) measurements

-- The answer of measurements in whole numbers: how many are 1; their sum; how many fall into each bucket, in order; or the
-- sum of their numbers at each place.
abbrev pub whole_answer : Kind → List (List ℕ) → Answer
whole_answer Count measurements = answer.Count (count_by (λ ms. nat_eq 1 (number_at 0 ms)) measurements)
whole_answer (Sum bits) measurements = answer.Sum (sum_by (number_at 0) measurements)
whole_answer (Histogram bounds) measurements =
    answer.Histogram (map (fallen bounds measurements) (range_with_len 0 (length bounds + 1)))
whole_answer (Vector len bits) measurements =
    answer.Vector (map (λ place. sum_by (number_at place) measurements) (range_with_len 0 len))
