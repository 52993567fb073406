use Rattle.std.proofs.Common.{◌≡◌, ◌-◌, ◌^◌, map}
use Rattle.std.specs.List.{range_with_len}
use Rattle.field_laws.specs.Ring.{power}
use Rattle.field_laws.specs.Interpolation.{coefficient}
use Rattle.poly_plain.proofs.interpolated.coefficients.Given as goal

abbrev pub invariant-loop-i : goal.invariant-loop-i
invariant-loop-i g l =
    let ring = g.F.Field.ring in
    let inverse = power ring (g.F.Field.root_of l.fn.log) (2 ^ l.fn.log - 1) in
    record {
      point : l.point ≡ power ring inverse l._i;
      made : l.made.items ≡ map (coefficient ring g.F.Field.half_of inverse l.fn.log l.values) (range_with_len 0 l._i);
    }
