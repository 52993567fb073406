use Rattle.std.proofs.Common.{◌≡◌, ◌+◌, ◌^◌, get_or, map}
use Rattle.std.specs.List.{range_with_len}
use Rattle.flp_proof.proofs.values.values_at_roots.Given as goal

abbrev pub invariant-loop-i : goal.invariant-loop-i
invariant-loop-i g l =
    let ring = g.F.Field.ring in
    l.values.items ≡ map (λ i. ring.add (get_or l.p i ring.nought) (get_or l.p (2 ^ l.fn.log + i) ring.nought)) (range_with_len 0 l.i)
