use Rattle.dap_tasks.proofs.RangesLemmas.{found_is}
use Rattle.dap_tasks.proofs.tasks.Tasks.tasks_keep_their_ranges.Goals as goal

pub returns : goal.returns
returns g c name task found = found_is _ name task (rw c.self.view_is at c.self.invariant.1) found
