use Rattle.std.proofs.Common.{◌≡◌, ◌++◌, take, drop}
use Rattle.field_laws.specs.Polynomial.{scale}
use Rattle.poly_ntt.proofs.transform.scale_all.Given as goal

abbrev pub invariant-loop-i : goal.invariant-loop-i
invariant-loop-i g l = l.p ≡ take l.i (scale g.F.Field.ring l.c l.initial.p) ++ drop l.i l.initial.p
