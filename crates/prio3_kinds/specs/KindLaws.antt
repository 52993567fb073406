-- Lemmas: each kind's function keeps the laws.
use Rattle.std.proofs.Common.{lit≤, le_trans, ℕ, ◌+◌, ◌-◌, ◌*◌, ◌^◌, ◌≤◌, length, arith}
use Rattle.std.proofs.Math.Nat.{pow-le-pow_right, mul-le-mul}
use Rattle.field64.specs.Laws.{residues, laws, is_residue_ring}
use Rattle.field64.specs.Element.{ring_of}
use Rattle.field128.specs.Laws as wide_laws
use Rattle.field128.specs.Element as wide
use Rattle.flp_circuits.specs.Kinds.{count_shape, sum_shape, histogram_shape}
use Rattle.flp_circuits.specs.CircuitLaws.{count_keeps, sum_keeps, histogram_keeps, count_encodes, sum_encodes, histogram_encodes}
use Rattle.circuit_vector.specs.Vector.{vector_shape}
use Rattle.circuit_vector.specs.Vector as circuit
use Rattle.circuit_vector.specs.VectorLaws.{vector_keeps, vector_encodes}
use Rattle.flp_proof.specs.Proof.{wire_log}
use Rattle.flp_proof.proofs.Orders.{wire_log_fits}
use Rattle.vdaf_api.specs.declared.kind.Kind.{Kind}
use Rattle.vdaf_api.specs.declared.kind.Kind.TheVariants.{Count, Sum, Histogram, Vector}
use Rattle.vdaf_api.specs.declared.shares.TheConstants.{MOST_LEADER}
use Rattle.vdaf_api.specs.Kind.{AreSizes, IsKind}
use Rattle.vdaf_api.specs.Promises.{FunctionLaws}
use Rattle.prio3_share.specs.Base.{BaseLaws}
use Rattle.prio3_prep.proofs.Measures.{prio_laws}
use Rattle.prio3_kinds.specs.Kinds.{base64, base128, answer_of, functions_of_kind}

pub base64_laws : BaseLaws base64
base64_laws = record { laws = laws.ring_laws; roots = laws.root_laws; halves = laws.half_law; residues = residues; is_ring = is_residue_ring; some_byte = lit≤ tt; few_bytes = lit≤ tt; room = lit≤ tt }

pub base128_laws : BaseLaws base128
base128_laws = record {
  laws = wide_laws.laws.ring_laws;
  roots = wide_laws.laws.root_laws;
  halves = wide_laws.laws.half_law;
  residues = wide_laws.residues;
  is_ring = wide_laws.is_residue_ring;
  some_byte = lit≤ tt;
  few_bytes = lit≤ tt;
  room = lit≤ tt;
}

-- input and proof have room in a leader's share, with as many calls as a circuit may have
short : (inputs calls arity width : ℕ) → inputs ≤ 2047 → calls ≤ 2047 → arity ≤ 2 → width ≤ 16 → inputs * width + (arity + (2 * (2 ^ wire_log calls - 1) + 1)) * width + 16 ≤ MOST_LEADER
short inputs calls arity width hi hc ha hw =
    let few : wire_log calls ≤ 11 = (wire_log_fits calls (omega arith)).1 in
    let power : 2 ^ wire_log calls ≤ 2 ^ 11 = pow-le-pow_right {n = 2} (lit≤ tt) few in
    let long : arity + (2 * (2 ^ wire_log calls - 1) + 1) ≤ 4097 = omega arith in
    let one : inputs * width ≤ 2047 * 16 = mul-le-mul hi hw in
    let two : (arity + (2 * (2 ^ wire_log calls - 1) + 1)) * width ≤ 4097 * 16 = mul-le-mul long hw in
    omega arith

-- the sizes of a vector are those of its circuit
pub circuit_sizes : {len bits : ℕ} → AreSizes len bits → circuit.AreSizes len bits
circuit_sizes h = record {
  some_numbers = h.some_numbers;
  few_numbers = h.few_numbers;
  some_bits = h.some_bits;
  few_bits = h.few_bits;
  short_input = h.short_input;
}

pub kind_laws : (kind : Kind) → IsKind kind → FunctionLaws (functions_of_kind kind)
kind_laws Count h = prio_laws base64_laws (count_shape ring_of) (count_keeps laws.ring_laws) (count_encodes laws.ring_laws) 0 (answer_of Count) (short 1 1 2 8 (lit≤ tt) (lit≤ tt) (lit≤ tt) (lit≤ tt))
kind_laws (Sum bits) h =
    prio_laws base128_laws (sum_shape wide.ring_of bits) (sum_keeps wide_laws.laws.ring_laws bits h.0 (omega (arith, h.1))) (sum_encodes wide_laws.laws.ring_laws bits) 1 (answer_of (Sum bits))
    (short bits bits 1 16 (le_trans h.1 (lit≤ tt)) (le_trans h.1 (lit≤ tt)) (lit≤ tt) (lit≤ tt))
kind_laws (Histogram bounds) h =
    let few : length bounds + 1 ≤ 2047 = omega (arith, h.few) in
    prio_laws base128_laws (histogram_shape wide.ring_of bounds) (histogram_keeps wide_laws.laws.ring_laws bounds (omega arith)) (histogram_encodes wide_laws.laws.ring_laws bounds (omega arith)) 2 (answer_of (Histogram bounds))
    (short (length bounds + 1) (length bounds + 1) 1 16 few few (lit≤ tt) (lit≤ tt))
kind_laws (Vector len bits) h =
    let sizes : circuit.AreSizes len bits = circuit_sizes h in
    prio_laws base128_laws (vector_shape wide.ring_of len bits) (vector_keeps wide_laws.laws.ring_laws len bits sizes) (vector_encodes wide_laws.laws.ring_laws len bits sizes) 3 (answer_of (Vector len bits))
    (short (len * bits) (len * bits) 1 16 h.short_input h.short_input (lit≤ tt) (lit≤ tt))
