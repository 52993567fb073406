use Rattle.std.proofs.Common.{subst}
use Rattle.std.proofs.lemmas.List.{map-append}
use Rattle.dap_tasks.specs.DistinctLaws.{AreDistinct-push}
use Rattle.dap_tasks.specs.Task.{IsTask}
use Rattle.dap_tasks.proofs.RangesLemmas.{AreTasks-push}
use Rattle.dap_tasks.proofs.tasks.Tasks.push.Goals as goal

pub invariant_of-self-2 : goal.invariant_of-self-2
invariant_of-self-2 g c =
    rw (c.push_reserved.ensures.items, c.try_reserve.ensures.items, map-append, c.self.view_is) (
      AreDistinct-push c.args.self.now c.args.task (rw c.self.view_is at c.self.invariant.0) c.requires,
      AreTasks-push c.args.self.now c.args.task (rw c.self.view_is at c.self.invariant.1) (subst IsTask c.task.view_is c.task.invariant),
    )
