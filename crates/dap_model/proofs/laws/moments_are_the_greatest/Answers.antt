use Rattle.dap_model.proofs.MomentLaws.{moment-greatest}
use Rattle.dap_model.proofs.laws.moments_are_the_greatest.Goals as goal

pub returns : goal.returns
returns c f state number lines = moment-greatest f state number lines
