use Rattle.std.proofs.Common.{◌≡◌, map}
use Rattle.std.specs.List.{range_with_len}
use Rattle.flp_proof.specs.Proof.{wire_value}
use Rattle.flp_proof.proofs.wires.wire_of.Given as goal

abbrev pub invariant-loop-k : goal.invariant-loop-k
invariant-loop-k g l =
    l.values.items ≡ map (wire_value g.C.F.Field.ring g.C.F.Field.half_of g.C.F.Field.root_of (g.C.Circuit.shape l.fn.c) l.fn.x l.fn.seed l.fn.j) (range_with_len 0 l.k)
