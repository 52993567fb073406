use Rattle.std.proofs.Common.{◌≡◌, ◌+◌, ◌∷◌, ◌++◌, ◌∙◌, drop, ap, sym, List}
use Rattle.std.specs.Option.{option_to_list}
use Rattle.dap_script.specs.declared.line.Line.{Line}
use Rattle.dap_tasks.specs.Task.{PlainTask}
use Rattle.dap_model.specs.Run.{tasks_of}
use Rattle.dap_direct.proofs.TaskLemmas.{at, front_with}
use Rattle.dap_direct.proofs.known.add_trials.Goals as goal

pub add_task-requires : goal.add_task-requires
add_task-requires g c =
    let tasks : List PlainTask = c.args.tasks.now in
    let script = c.args.script.now in
    let i = c.loop-line.line-index in
    let rest : List Line = drop (i + 1) script in
    let here : drop i script ≡ c.line-item.result ∷ rest = at script i c.line-item.result c.loop-line-test.true c.line-item.is in
    let parts : tasks_of (drop i script) ≡ option_to_list c.in_ok-task_in.field-0 ++ tasks_of rest =
    ap tasks_of here ∙ ap (λ (l : List PlainTask). l ++ tasks_of rest) (sym c.in_ok-task_in.ensures) in
    front_with c.loop-line.tasks (option_to_list c.in_ok-task_in.field-0) (tasks_of rest) (tasks_of (drop i script)) (tasks ++ tasks_of script)
    parts c.loop-line.invariant c.requires.names
