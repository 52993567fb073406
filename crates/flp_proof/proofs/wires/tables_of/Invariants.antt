use Rattle.std.proofs.Common.{◌≡◌, ◌+◌, ◌^◌, map}
use Rattle.std.specs.List.{range_with_len}
use Rattle.poly_ntt.specs.Transform.{values_at_powers}
use Rattle.flp_proof.specs.Proof.{wire}
use Rattle.flp_proof.proofs.wires.tables_of.Given as goal

abbrev pub invariant-loop-j : goal.invariant-loop-j
invariant-loop-j g l =
    let F = g.C.F.Field in
    map (λ w. w.items) l.tables.items
    ≡ map (λ j. values_at_powers F.ring (F.root_of (l.fn.log + 1)) (2 ^ (l.fn.log + 1)) (wire F.ring F.half_of F.root_of (g.C.Circuit.shape l.fn.c) l.fn.x l.fn.seeds j)) (range_with_len 0 l.j)
