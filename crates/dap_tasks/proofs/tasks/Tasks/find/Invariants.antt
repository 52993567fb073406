use Rattle.std.proofs.Common.{◌≡◌, drop, map}
use Rattle.std.specs.List.{find}
use Rattle.dap_tasks.specs.Task.{has_name}
use Rattle.dap_tasks.proofs.tasks.Tasks.find.Given as goal

-- none of the tasks so far has the name
abbrev pub invariant-loop-known : goal.invariant-loop-known
invariant-loop-known g l = find (has_name l.name) (map (λ k. k.task) (drop l.known-index l.known-items)) ≡ find (has_name l.name) l.self
