use Rattle.std.proofs.Common.{sym, ◌∙◌}
use Rattle.dap_script.proofs.TaskLemmas.{task_goes, task_stops}
use Rattle.dap_script.proofs.line.Line.task_until.Goals as goal

pub returns-in-None : goal.returns-in-None
returns-in-None c = task_stops c.args.expires c.args.fields.now c.in-len3-up.len_at_least (sym c.in_ok-kind.ensures ∙ c.in-None.is)

pub returns-in-Some : goal.returns-in-Some
returns-in-Some c =
    c.task_with.ensures ∙ task_goes c.args.expires c.args.fields.now c.in-Some.kind c.in-len3-up.len_at_least (sym c.in_ok-kind.ensures ∙ c.in-Some.is)
