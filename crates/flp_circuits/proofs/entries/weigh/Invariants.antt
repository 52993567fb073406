use Rattle.std.proofs.Common.{◌≡◌, ◌≤◌, length}
use Rattle.field_laws.specs.Ring.{power}
use Rattle.flp_circuits.specs.Kinds.{weighted}
use Rattle.flp_circuits.proofs.entries.weigh.Given as goal

abbrev pub invariant-loop-x : goal.invariant-loop-x
invariant-loop-x g l =
    let ring = g.F.Field.ring in
    record {
      within : l.x-index ≤ length l.xs;
      weight : l.weight ≡ ring.mul l.fn.first (power ring l.ratio l.x-index);
      sum : l.sum ≡ weighted ring (λ i. ring.mul l.fn.first (power ring l.ratio i)) l.x-index l.xs;
    }
