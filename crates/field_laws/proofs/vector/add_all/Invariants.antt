use Rattle.std.proofs.Common.{◌≡◌}
use Rattle.field_laws.proofs.Vectors.{added}
use Rattle.field_laws.proofs.vector.add_all.Given as goal

abbrev pub invariant-loop-i : goal.invariant-loop-i
invariant-loop-i g l = l.to ≡ added g.F.Field.ring l.initial.to l.from l.i
