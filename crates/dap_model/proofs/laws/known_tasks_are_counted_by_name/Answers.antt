use Rattle.dap_model.proofs.NameCountLaws.{count-distinct, count-once, full-exact}
use Rattle.dap_model.proofs.laws.known_tasks_are_counted_by_name.Goals as goal

pub returns-clause-told : goal.returns-clause-told
returns-clause-told c most opened lines = full-exact most opened lines

pub returns-clause-once : goal.returns-clause-once
returns-clause-once c names name = count-once names name

pub returns-clause-different : goal.returns-clause-different
returns-clause-different c names differ = count-distinct names differ
