use Rattle.std.proofs.Common.{◌≡◌, map, get_or}
use Rattle.std.specs.List.{range_with_len}
use Rattle.flp_circuits.specs.Shape.{gadget}
use Rattle.flp_proof.proofs.gadgets.gadget_values.Given as goal

abbrev pub invariant-loop-k : goal.invariant-loop-k
invariant-loop-k g l =
    let ring = g.C.F.Field.ring in
    l.values.items ≡ map (λ k. gadget ring (g.C.Circuit.shape l.fn.c) (map (λ w. get_or w.items k ring.nought) l.tables)) (range_with_len 0 l.k)
