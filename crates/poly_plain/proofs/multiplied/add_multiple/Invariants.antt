use Rattle.std.proofs.Common.{◌≡◌, take}
use Rattle.field_laws.specs.Polynomial.{add_polynomials, scale}
use Rattle.poly_plain.proofs.multiplied.add_multiple.Given as goal

abbrev pub invariant-loop-j : goal.invariant-loop-j
invariant-loop-j g l = l.to ≡ add_polynomials g.F.Field.ring (scale g.F.Field.ring l.c (take l.j l.q)) l.initial.to
