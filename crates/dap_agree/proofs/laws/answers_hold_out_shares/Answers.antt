use Rattle.dap_agree.proofs.Fresh.{answer_outs}
use Rattle.dap_agree.proofs.laws.answers_hold_out_shares.Goals as goal

pub returns : goal.returns
returns c f js n s a agree m = answer_outs f js n s a agree m
