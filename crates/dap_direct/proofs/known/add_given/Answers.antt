use Rattle.std.proofs.Common.{List, ◌∷◌, [], ◌++◌}
use Rattle.std.specs.Vec.Iter.{into_iter_items}
use Rattle.dap_tasks.specs.Task.{PlainTask}
use Rattle.dap_direct.proofs.TaskLemmas.{front_with}
use Rattle.dap_direct.proofs.known.add_given.Goals as goal

pub add_task-requires : goal.add_task-requires
add_task-requires g c =
    let tasks : List PlainTask = c.args.tasks.now in
    front_with c.loop-task.tasks (c.in-Some.task ∷ []) (into_iter_items c.next.new.self) (into_iter_items c.loop-task.task-iterator) (tasks ++ c.args.given.items)
    c.in-Some.ensures.steps.0 c.loop-task.invariant.all c.requires
