use Rattle.dap_agree.proofs.Disks as disks
use Rattle.dap_agree.proofs.laws.disks_are_in_the_order_of_their_parts.Goals as goal

pub returns-clause-leader_first : goal.returns-clause-leader_first
returns-clause-leader_first c lanes part other p = disks.leader_first lanes part other p

pub returns-clause-front_first : goal.returns-clause-front_first
returns-clause-front_first c lanes lane node = disks.front_first lanes lane node

pub returns-clause-lanes_ascend : goal.returns-clause-lanes_ascend
returns-clause-lanes_ascend c lanes lane later node h = disks.lanes_ascend lanes lane later node h

pub returns-clause-within : goal.returns-clause-within
returns-clause-within c lanes node part p = disks.within lanes node part p
