use Rattle.dap_model.proofs.NameCountLaws.{own-task, stays-known}
use Rattle.dap_model.proofs.laws.earlier_tasks_stay_known.Goals as goal

pub returns-clause-earlier : goal.returns-clause-earlier
returns-clause-earlier c opened lines name task known = stays-known opened lines name task known

pub returns-clause-own : goal.returns-clause-own
returns-clause-own c opened lines name unknown = own-task opened lines name unknown
