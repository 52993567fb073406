use Rattle.prio3_share.proofs.Fields.{kept}
use Rattle.prio3_prep.proofs.Accepted.{decided}
use Rattle.prio3_prep.proofs.laws.accepted_reports_are_decided.Goals as goal

pub returns : goal.returns
returns g c = decided (kept g.met.C.F.Field) (g.C.Circuit.shape c.args.c.now) (g.met.C.Circuit.laws c.args.c.now) c.args.kind
