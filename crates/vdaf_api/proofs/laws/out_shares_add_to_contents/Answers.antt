use Rattle.vdaf_api.specs.VerdictLaws.{ok-adds}
use Rattle.vdaf_api.proofs.laws.out_shares_add_to_contents.Goals as goal

pub returns : goal.returns
returns g c = ok-adds (g.met.V.Vdaf.laws c.args.v.now)
