use Rattle.dap_agree.proofs.Fresh.{fresh_legal, fresh_agree}
use Rattle.dap_agree.proofs.laws.fresh_journals_agree.Goals as goal

pub returns-clause-legal : goal.returns-clause-legal
returns-clause-legal c lanes = fresh_legal lanes

pub returns-clause-agree : goal.returns-clause-agree
returns-clause-agree c f lanes = fresh_agree f lanes
