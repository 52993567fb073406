use Rattle.vdaf_api.proofs.laws.forms_are_needed.Goals as goal

pub returns-clause-half : goal.returns-clause-half
returns-clause-half g c = (g.met.V.Vdaf.laws c.args.v.now).halves

pub returns-clause-shares : goal.returns-clause-shares
returns-clause-shares g c = (g.met.V.Vdaf.laws c.args.v.now).shares
