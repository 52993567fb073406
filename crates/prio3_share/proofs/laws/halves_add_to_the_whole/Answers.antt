use Rattle.prio3_share.proofs.Fields.{kept}
use Rattle.prio3_share.proofs.Added.{adds, adds-encoded}
use Rattle.prio3_share.proofs.laws.halves_add_to_the_whole.Goals as goal

pub returns : goal.returns
returns g c =
    let laws = kept g.met.C.F.Field in
    let shape = g.C.Circuit.shape c.args.c.now in
    let keeps = g.met.C.Circuit.laws c.args.c.now in
    record { input = adds laws shape keeps c.args.kind; measurement = adds-encoded laws shape keeps c.args.kind (g.met.C.Circuit.codes c.args.c.now) }
