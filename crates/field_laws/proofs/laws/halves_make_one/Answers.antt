use Rattle.std.proofs.Common.{sym, ap, ◌∙◌}
use Rattle.field_laws.proofs.Modulo.{modular, half_number}
use Rattle.field_laws.proofs.laws.halves_make_one.Goals as goal

pub returns-clause-is_half_of_one_more : goal.returns-clause-is_half_of_one_more
returns-clause-is_half_of_one_more g c =
    let number = g.F.Field.number in
    let half = g.F.Field.half_of in
    let counts = modular g.met.F.Field.residues g.met.F.Field.is_ring in
    half_number g.F.Field.MODULUS (number half) g.met.F.Field.residues.large (g.met.F.Field.residues.below half)
    (sym (counts.add half half) ∙ ap number g.met.F.Field.halves ∙ counts.unit)
