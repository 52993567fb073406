use Rattle.std.proofs.Common.{◌≡◌, ◌++◌, take, drop}
use Rattle.field_laws.specs.Ring.{power}
use Rattle.field_laws.specs.Polynomial.{add_polynomials}
use Rattle.poly_ntt.specs.Transform.{twisted}
use Rattle.poly_ntt.proofs.butterflies.butterfly.Given as goal

abbrev pub invariant-loop-i : goal.invariant-loop-i
invariant-loop-i g l =
    let ring = g.F.Field.ring in
    record {
      w : l.w ≡ power ring l.root l.i;
      sums : l.front ≡ take l.i (add_polynomials ring l.initial.front l.initial.back) ++ drop l.i l.initial.front;
      differences : l.back ≡ take l.i (twisted ring l.root ring.unit l.initial.front l.initial.back) ++ drop l.i l.initial.back;
    }
