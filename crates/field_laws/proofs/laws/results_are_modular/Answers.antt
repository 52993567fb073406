use Rattle.field_laws.proofs.Modulo.{modular}
use Rattle.field_laws.proofs.laws.results_are_modular.Goals as goal

pub returns : goal.returns
returns g c = modular g.met.F.Field.residues g.met.F.Field.is_ring
