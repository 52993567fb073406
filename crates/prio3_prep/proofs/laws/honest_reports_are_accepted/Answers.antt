use Rattle.prio3_share.proofs.Fields.{base, kept}
use Rattle.prio3_prep.proofs.Measures.{honest_laws}
use Rattle.prio3_prep.proofs.Points.{fair_point}
use Rattle.prio3_prep.proofs.laws.honest_reports_are_accepted.Goals as goal

pub returns-clause-honest : goal.returns-clause-honest
returns-clause-honest g c = honest_laws (kept g.met.C.F.Field) (g.C.Circuit.shape c.args.c.now) (g.met.C.Circuit.laws c.args.c.now) (g.met.C.Circuit.codes c.args.c.now) c.args.kind

pub returns-clause-fair : goal.returns-clause-fair
returns-clause-fair g c = fair_point (base g.C.F.Field) (g.C.Circuit.shape c.args.c.now) c.args.kind g.met.C.F.Field.residues
