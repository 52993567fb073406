use Rattle.prio3_share.proofs.Fields.{kept}
use Rattle.prio3_share.proofs.Added.{lengths}
use Rattle.prio3_share.proofs.laws.shares_have_their_lengths.Goals as goal

pub returns : goal.returns
returns g c = lengths (kept g.met.C.F.Field) (g.C.Circuit.shape c.args.c.now) (g.met.C.Circuit.laws c.args.c.now) c.args.kind
