use Rattle.vdaf_api.proofs.Totals.{totals_are}
use Rattle.vdaf_api.proofs.laws.sums_are_answered.Goals as goal

pub returns : goal.returns
returns g c = totals_are (g.met.V.Vdaf.laws c.args.v.now).space
