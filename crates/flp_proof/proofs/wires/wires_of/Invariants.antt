use Rattle.std.proofs.Common.{◌≡◌, map}
use Rattle.std.specs.List.{range_with_len}
use Rattle.flp_proof.specs.Proof.{wire}
use Rattle.flp_proof.proofs.wires.wires_of.Given as goal

abbrev pub invariant-loop-j : goal.invariant-loop-j
invariant-loop-j g l =
    map (λ w. w.items) l.wires.items ≡ map (wire g.C.F.Field.ring g.C.F.Field.half_of g.C.F.Field.root_of (g.C.Circuit.shape l.fn.c) l.fn.x l.fn.seeds) (range_with_len 0 l.j)
