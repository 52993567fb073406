use Rattle.std.proofs.Common.{◌≡◌, ◌*◌, map, drop}
use Rattle.std.specs.List.{range_with_len}
use Rattle.field128.specs.Element.{ring_of}
use Rattle.circuit_vector.specs.Vector.{entry}
use Rattle.circuit_vector.proofs.vector.VectorCircuitCircuit.truncate.Given as goal

abbrev pub invariant-loop-j : goal.invariant-loop-j
invariant-loop-j l = record {
  rest : l.rest ≡ drop (l._j * l.self.bits) l.x;
  out : l.out.items ≡ map (entry ring_of l.self.bits l.x) (range_with_len 0 l._j);
}
