use Rattle.std.proofs.Common.{◌≡◌, ◌++◌, map}
use Rattle.std.specs.List.{flat_map, range_with_len}
use Rattle.dap_script.specs.Spelling.{ended}
use Rattle.load_maker.specs.Load.{load_task, measurement}
use Rattle.load_maker.proofs.script.load_script.Given as goal

-- the task's line and those of the measurements so far are written
abbrev pub invariant-loop-number : goal.invariant-loop-number
invariant-loop-number l = l.text.items ≡ ended load_task ++ flat_map ended (map (measurement l.seed) (range_with_len 0 l.number))
