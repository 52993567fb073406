use Rattle.dap_agree.proofs.Words.{leader_fits, leader_have}
use Rattle.dap_agree.proofs.laws.closes_count_whole_lanes.Goals as goal

pub returns : goal.returns
returns c f fr lane l h g =
    ((λ a. (leader_have f fr l h (lane, g) a.0, a.1)), (λ a. (leader_fits f fr l h (lane, g) a.0, a.1)))
