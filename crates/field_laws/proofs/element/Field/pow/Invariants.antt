use Rattle.std.proofs.Common.{◌≡◌}
use Rattle.field_laws.specs.Ring.{power}
use Rattle.field_laws.proofs.element.Field.pow.Given as goal

abbrev pub invariant-loop-rest : goal.invariant-loop-rest
invariant-loop-rest g l = let ring = g.Self.Field.ring in ring.mul l.product (power ring l.base l.rest) ≡ power ring l.fn.self l.exponent

abbrev pub decreases-loop-rest : goal.decreases-loop-rest
decreases-loop-rest g l = l.rest
