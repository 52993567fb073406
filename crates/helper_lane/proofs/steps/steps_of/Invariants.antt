use Rattle.std.proofs.Common.{◌≡◌, ◌++◌, Some}
use Rattle.std.specs.List.{find}
use Rattle.dap_tasks.specs.Task.{PlainTask, has_name}
use Rattle.dap_views.specs.Request.{parts_left}
use Rattle.helper_lane.specs.Reply.{first_steps}
use Rattle.helper_lane.proofs.steps.steps_of.Given as goal

abbrev pub invariant-loop-part : goal.invariant-loop-part
invariant-loop-part g l =
    (task : PlainTask) → find (has_name l.name) l.tasks ≡ Some task
    → l.steps.items ++ first_steps g.V.Vdaf.of_kind task l.name (parts_left l.part-iterator) ≡ first_steps g.V.Vdaf.of_kind task l.name (parts_left l.request)
