use Rattle.std.proofs.Common.{◌≡◌}
use Rattle.field_laws.proofs.doubling.multiply_by_doubling.Given as goal

abbrev pub invariant-loop-rest : goal.invariant-loop-rest
invariant-loop-rest g l = let ring = g.F.Field.ring in ring.add l.product (ring.mul l.addend (g.F.Field.residue l.rest)) ≡ ring.mul l.fn.a l.fn.b

abbrev pub decreases-loop-rest : goal.decreases-loop-rest
decreases-loop-rest g l = l.rest
