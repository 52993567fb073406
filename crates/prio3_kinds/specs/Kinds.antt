-- The measurement function of each kind.
use Rattle.std.specs.Prelude.{ℕ, ◌^◌, List, [], ◌∷◌, map, Bool, true, false, nat_eq, nat_lt, if◌then◌else◌, slice_index_or}
use Rattle.std.specs.List.{range_with_len}
use Rattle.field64.specs.declared.element.Field64.{Field64}
use Rattle.field64.specs.Modulus.{modulus}
use Rattle.field64.specs.Element.{ring_of, residue_of, number_of, root_of_log, half_element}
use Rattle.field128.specs.declared.element.Field128.{Field128}
use Rattle.field128.specs.Modulus as wide_modulus
use Rattle.field128.specs.Element as wide
use Rattle.flp_circuits.specs.Kinds.{count_shape, sum_shape, histogram_shape}
use Rattle.circuit_vector.specs.Vector.{are_numbers, vector_shape}
use Rattle.vdaf_api.specs.declared.kind.Kind.{Kind}
use Rattle.vdaf_api.specs.declared.kind.Kind.TheVariants.{Count, Sum, Histogram, Vector}
use Rattle.vdaf_api.specs.declared.answer.Answer.{Answer}
use Rattle.vdaf_api.specs.declared.answer.Answer.TheVariants as answer
use Rattle.vdaf_api.specs.Functions.{Functions}
use Rattle.prio3_share.specs.Base.{Base, base_of}
use Rattle.prio3_share.specs.Functions.{functions_of}

-- the field of counts
abbrev pub base64 : Base Field64
base64 = base_of ring_of half_element root_of_log number_of residue_of modulus 8

-- the field of sums, histograms and vectors
abbrev pub base128 : Base Field128
base128 = base_of wide.ring_of wide.half_element wide.root_of_log wide.number_of wide.residue_of wide_modulus.modulus 16

-- the answer of a vector: its one number, or its numbers in order
abbrev pub answer_of : Kind → List ℕ → Answer
answer_of Count v = answer.Count (slice_index_or v 0 0)
answer_of (Sum bits) v = answer.Sum (slice_index_or v 0 0)
answer_of (Histogram bounds) v = answer.Histogram v
answer_of (Vector len bits) v = answer.Vector v

-- what the function of a kind computes; the kind byte is 0, 1, 2 or 3
abbrev pub functions_of_kind : Kind → Functions
functions_of_kind Count = functions_of base64 (count_shape ring_of) 0 (answer_of Count)
functions_of_kind (Sum bits) = functions_of base128 (sum_shape wide.ring_of bits) 1 (answer_of (Sum bits))
functions_of_kind (Histogram bounds) = functions_of base128 (histogram_shape wide.ring_of bounds) 2 (answer_of (Histogram bounds))
functions_of_kind (Vector len bits) = functions_of base128 (vector_shape wide.ring_of len bits) 3 (answer_of (Vector len bits))

-- a test of the number of a list of one; no other list passes
abbrev pub is_one : (ℕ → Bool) → List ℕ → Bool
is_one test [] = false
is_one test (m ∷ []) = test m
is_one test (m ∷ (n ∷ ms)) = false

-- whether a list of numbers is a measurement of a kind
abbrev pub is_measurement : Kind → List ℕ → Bool
is_measurement Count ms = is_one (λ m. nat_lt m 2) ms
is_measurement (Sum bits) ms = is_one (λ m. nat_lt m (2 ^ bits)) ms
is_measurement (Histogram bounds) ms = is_one (λ m. true) ms
is_measurement (Vector len bits) ms = are_numbers len bits ms

-- 1 at a place, and 0 at the n - 1 others
abbrev pub one_at : ℕ → ℕ → List ℕ
one_at n place = map (λ i. if nat_eq i place then 1 else 0) (range_with_len 0 n)
