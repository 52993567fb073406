use Rattle.dap_seal.proofs.Honest.{honest-counted}
use Rattle.dap_seal.proofs.laws.honest_fair_reports_are_counted.Goals as goal

pub returns : goal.returns
returns g c t id time m seed r hk hi hs made fair = honest-counted (g.met.V.Vdaf.laws c.args.vdaf.now) t id time m seed r hk hi hs made fair
