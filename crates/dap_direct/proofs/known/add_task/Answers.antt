use Rattle.std.proofs.Common.{List, ap, subst, ◌++◌, []}
use Rattle.std.specs.Option.{option_to_list}
use Rattle.dap_tasks.specs.Task.{PlainTask}
use Rattle.dap_tasks.specs.Tasks.{AreDistinct}
use Rattle.dap_direct.proofs.TaskLemmas.{none_before}
use Rattle.dap_direct.proofs.known.add_task.Goals as goal

pub push-requires : goal.push-requires
push-requires g c =
    let tasks : List PlainTask = c.args.tasks.now in
    none_before tasks c.in-Some.task [] (subst (λ (l : List PlainTask). AreDistinct (tasks ++ l)) (ap option_to_list c.in-Some.is) c.requires)
