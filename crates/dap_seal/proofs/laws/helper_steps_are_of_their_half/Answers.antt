use Rattle.dap_seal.proofs.Honest.{helper_step-half}
use Rattle.dap_seal.proofs.laws.helper_steps_are_of_their_half.Goals as goal

pub returns : goal.returns
returns c f t r = helper_step-half f t r
