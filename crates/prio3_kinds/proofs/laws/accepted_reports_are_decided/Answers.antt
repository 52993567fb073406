use Rattle.std.proofs.Common.{◌+◌, ◌≤◌, length, arith}
use Rattle.vdaf_api.specs.declared.kind.Kind.TheVariants.{Count, Sum, Histogram, Vector}
use Rattle.field64.specs.Element as small
use Rattle.field64.specs.Laws as small_laws
use Rattle.field128.specs.Element as wide
use Rattle.field128.specs.Laws as wide_laws
use Rattle.flp_circuits.specs.Kinds.{count_shape, sum_shape, histogram_shape}
use Rattle.flp_circuits.specs.CircuitLaws.{count_keeps, sum_keeps, histogram_keeps}
use Rattle.circuit_vector.specs.Vector.{vector_shape}
use Rattle.circuit_vector.specs.VectorLaws.{vector_keeps}
use Rattle.prio3_prep.proofs.Accepted.{decided}
use Rattle.prio3_kinds.specs.Kinds.{answer_of}
use Rattle.prio3_kinds.specs.KindLaws.{base64_laws, base128_laws, circuit_sizes}
use Rattle.prio3_kinds.proofs.laws.accepted_reports_are_decided.Goals as goal

pub returns-clause-count : goal.returns-clause-count
returns-clause-count c = decided base64_laws (count_shape small.ring_of) (count_keeps small_laws.laws.ring_laws) 0 (answer_of Count)

pub returns-clause-sum : goal.returns-clause-sum
returns-clause-sum c bits h = decided base128_laws (sum_shape wide.ring_of bits) (sum_keeps wide_laws.laws.ring_laws bits h.0 (omega (arith, h.1))) 1 (answer_of (Sum bits))

pub returns-clause-histogram : goal.returns-clause-histogram
returns-clause-histogram c bounds h =
    let few : length bounds + 1 ≤ 1024 = omega (arith, h.few) in
    decided base128_laws (histogram_shape wide.ring_of bounds) (histogram_keeps wide_laws.laws.ring_laws bounds (omega arith)) 2 (answer_of (Histogram bounds))

pub returns-clause-vector : goal.returns-clause-vector
returns-clause-vector c len bits h = decided base128_laws (vector_shape wide.ring_of len bits) (vector_keeps wide_laws.laws.ring_laws len bits (circuit_sizes h)) 3 (answer_of (Vector len bits))
