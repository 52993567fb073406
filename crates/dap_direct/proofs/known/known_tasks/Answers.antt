use Rattle.std.proofs.Common.{List, ◌++◌, ◌∙◌, ap, sym, subst}
use Rattle.dap_tasks.specs.Task.{PlainTask}
use Rattle.dap_tasks.specs.Tasks.{AreDistinct}
use Rattle.dap_model.specs.Run.{tasks_of}
use Rattle.dap_direct.proofs.TaskLemmas.{all_differ, front_differs}
use Rattle.dap_direct.proofs.known.known_tasks.Goals as goal

pub add_given-requires : goal.add_given-requires
add_given-requires g c =
    subst (λ (l : List PlainTask). AreDistinct (l ++ c.args.given.items)) (sym c.new-tasks.ensures)
    (front_differs c.args.given.items (tasks_of c.args.script.now) (all_differ c.args.given.items c.args.script.now c.requires.names))

pub add_trials-requires-clause-names : goal.add_trials-requires-clause-names
add_trials-requires-clause-names g c =
    subst (λ (l : List PlainTask). AreDistinct (l ++ tasks_of c.args.script.now))
    (sym (c.in_ok-add_given.ensures ∙ ap (λ (l : List PlainTask). l ++ c.args.given.items) c.new-tasks.ensures))
    (all_differ c.args.given.items c.args.script.now c.requires.names)
