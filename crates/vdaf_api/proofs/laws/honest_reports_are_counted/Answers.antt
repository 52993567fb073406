use Rattle.vdaf_api.proofs.laws.honest_reports_are_counted.Goals as goal

pub returns : goal.returns
returns g c = (g.met.V.Vdaf.laws c.args.v.now).honest
