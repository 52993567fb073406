use Rattle.dap_agree.proofs.FrontsGrow.{fronts_grow, front_fits_grows, helper_front_fits_grows}
use Rattle.dap_agree.proofs.Grows.{leader_grows, helper_grows}
use Rattle.dap_agree.proofs.laws.counterparts_stay_where_journals_grow.Goals as goal

pub returns-clause-leader : goal.returns-clause-leader
returns-clause-leader c f fr later l ls h hs k v s t a = leader_grows f fr later l ls h hs k v s t a

pub returns-clause-helper : goal.returns-clause-helper
returns-clause-helper c f fr later l ls k v s g a = helper_grows f fr later l ls k v s g a

pub returns-clause-fronts : goal.returns-clause-fronts
returns-clause-fronts c front fronts helper helpers legal sub same = fronts_grow front fronts helper helpers legal sub same

pub returns-clause-front_records : goal.returns-clause-front_records
returns-clause-front_records c f js later x w m k = front_fits_grows f js later w x m k

pub returns-clause-helper_records : goal.returns-clause-helper_records
returns-clause-helper_records c f js later x w k = helper_front_fits_grows f js later w x k
