use Rattle.std.proofs.Common.{◌^◌, ◌<◌, ◌∙◌, sym, arith, get_or, length}
use Rattle.std.proofs.lemmas.List.FromFn.{length-map-range_with_len, get_or-map-range_with_len}
use Rattle.field_laws.specs.Ring.{power}
use Rattle.field_laws.proofs.Proth.{different_powers}
use Rattle.field_laws.proofs.laws.roots_of_one_are_different.Goals as goal

pub returns : goal.returns
returns g c = λ log few i j low high same.
    let F = g.F.Field in
    let met = g.met.F.Field in
    let within : j < 2 ^ log = omega (arith, length-map-range_with_len (power F.ring (F.root_of log)) 0 (2 ^ log)) in
    different_powers met.residues met.is_ring met.laws F.half_of F.root_of met.halves met.roots log few i j low within
    (sym (get_or-map-range_with_len (power F.ring (F.root_of log)) 0 (2 ^ log) i i F.ring.nought (omega arith) (omega arith))
    ∙ same ∙ get_or-map-range_with_len (power F.ring (F.root_of log)) 0 (2 ^ log) j j F.ring.nought within (omega arith))
