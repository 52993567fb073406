use Rattle.std.proofs.Common.{◌≡◌, ◌++◌, drop}
use Rattle.std.specs.List.{flat_map}
use Rattle.dap_program.specs.Headline.{task_line}
use Rattle.dap_program.proofs.check.task_lines.Given as goal

-- what is written and what is left are what is to be written
abbrev pub invariant-loop-task : goal.invariant-loop-task
invariant-loop-task l = l.text.items ++ flat_map task_line (drop l.task-index l.tasks) ≡ flat_map task_line l.tasks
