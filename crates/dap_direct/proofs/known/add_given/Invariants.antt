use Rattle.std.proofs.Common.{◌≡◌, ◌++◌, length}
use Rattle.std.specs.Vec.Iter.{into_iter_items, into_iter_len}
use Rattle.dap_direct.proofs.known.add_given.Given as goal

-- the tasks so far and those that are left are those of all
abbrev pub invariant-loop-task : goal.invariant-loop-task
invariant-loop-task g l = record {
  all : l.tasks ++ into_iter_items l.task-iterator ≡ l.fn.tasks ++ l.fn.given.items;
  left : into_iter_len l.task-iterator ≡ length (into_iter_items l.task-iterator);
}
