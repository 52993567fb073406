use Rattle.std.proofs.Common.{◌-◌, ◌^◌}
use Rattle.field_laws.specs.Ring.{power}
use Rattle.field_laws.proofs.Interpolation.{roots_at, interpolation_exact, interpolation_unique}
use Rattle.poly_plain.proofs.interpolated.interpolation_is_unique.Goals as goal

pub returns-clause-exists : goal.returns-clause-exists
returns-clause-exists g c = λ log values few size.
    let F = g.F.Field in
    let met = g.met.F.Field in
    interpolation_exact met.laws F.half_of (F.root_of log) (power F.ring (F.root_of log) (2 ^ log - 1)) log values (roots_at met.laws F.half_of 16 F.root_of log met.halves met.roots few) size

pub returns-clause-unique : goal.returns-clause-unique
returns-clause-unique g c = λ log values p q few size.
    let F = g.F.Field in
    let met = g.met.F.Field in
    interpolation_unique met.laws F.half_of (F.root_of log) (power F.ring (F.root_of log) (2 ^ log - 1)) log values p q (roots_at met.laws F.half_of 16 F.root_of log met.halves met.roots few) size
