use Rattle.std.proofs.Common.{◌≡◌, [], length, drop}
use Rattle.std.specs.Prelude.{All}
use Rattle.dap_tasks.specs.File.{tasks_after}
use Rattle.dap_tasks.specs.Reads.{tables_seen}
use Rattle.dap_tasks.specs.Task.{IsTask}
use Rattle.dap_tasks.specs.Tasks.{AreDistinct}
use Rattle.dap_tasks.proofs.file.tasks.Given as goal

-- reading on from the tasks so far is reading all
abbrev pub invariant-loop-table : goal.invariant-loop-table
invariant-loop-table l = record {
  count : length l.tasks.items ≡ l.table-index;
  rest : tasks_after l.tasks.items (tables_seen (drop l.table-index l.tables)) ≡ tasks_after [] (tables_seen l.tables);
  distinct : AreDistinct l.tasks.items;
  ranges : All IsTask l.tasks.items;
}
