use Rattle.std.proofs.Common.{arith, ◌∙◌}
use Rattle.std.proofs.lemmas.Grind.{common_steps}
use Rattle.std.proofs.lemmas.List.Elements.{All-push}
use Rattle.dap_tasks.specs.Task.{IsTask}
use Rattle.dap_tasks.specs.DistinctLaws.{AreDistinct-push}
use Rattle.dap_tasks.proofs.TasksLemmas.{tasks_go}
use Rattle.dap_tasks.proofs.file.tasks.Goals as goal

pub loop-table-preserved : goal.loop-table-preserved
loop-table-preserved c =
    rw c.in_ok-push-in-Ok.ensures.items
    (record {
      count = grind (arith, common_steps, c.loop-table.invariant.count);
      rest = tasks_go c.loop-table.tasks.items c.args.tables.now c.loop-table.table-index c.table-item.result c.in-Ok.task c.loop-table-test.true (c.table-item.is) (rw c.deref.ensures.value at c.in-Ok.ensures.task) ∙ c.loop-table.invariant.rest;
      distinct = AreDistinct-push c.loop-table.tasks.items c.in-Ok.task c.loop-table.invariant.distinct (rw c.deref.ensures.value at c.in-Ok.ensures.new);
      ranges = All-push IsTask c.loop-table.tasks.items c.in-Ok.task c.loop-table.invariant.ranges c.in-Ok.ensures.ranges;
    })
