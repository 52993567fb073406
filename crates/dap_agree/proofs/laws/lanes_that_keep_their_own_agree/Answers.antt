use Rattle.dap_agree.proofs.Static.{lanes_agree}
use Rattle.dap_agree.proofs.laws.lanes_that_keep_their_own_agree.Goals as goal

pub returns : goal.returns
returns c f fr lane format lanes own la lo ha ho requests replies w =
    lanes_agree f fr lane format lanes own la lo ha ho requests replies w
