use Rattle.prio3_share.proofs.Fields.{kept}
use Rattle.prio3_prep.proofs.Measures.{prio_laws}
use Rattle.prio3_prep.proofs.laws.circuits_measure.Goals as goal

pub returns : goal.returns
returns g c = prio_laws (kept g.met.C.F.Field) (g.C.Circuit.shape c.args.c.now) (g.met.C.Circuit.laws c.args.c.now) (g.met.C.Circuit.codes c.args.c.now) c.args.kind
