use Rattle.std.proofs.Common.{◌≡◌, ◌++◌, ◌∷◌, []}
use Rattle.field_laws.specs.Polynomial.{eval}
use Rattle.poly_plain.proofs.value.eval.Given as goal

abbrev pub invariant-loop-coefficient : goal.invariant-loop-coefficient
invariant-loop-coefficient g l = eval g.F.Field.ring (l.coefficient-iterator.iter.rest.now ++ l.value ∷ []) l.x ≡ eval g.F.Field.ring l.p l.x
