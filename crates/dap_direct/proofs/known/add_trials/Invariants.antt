use Rattle.std.proofs.Common.{◌≡◌, ◌++◌, drop}
use Rattle.dap_model.specs.Run.{tasks_of}
use Rattle.dap_direct.proofs.known.add_trials.Given as goal

-- the tasks so far and those of what is left are those of all
abbrev pub invariant-loop-line : goal.invariant-loop-line
invariant-loop-line g l = l.tasks ++ tasks_of (drop l.line-index l.script) ≡ l.fn.tasks ++ tasks_of l.script
