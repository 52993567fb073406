use Rattle.std.proofs.Common.{sym}
use Rattle.dap_direct.proofs.SummedLemmas.{found_own}
use Rattle.dap_direct.proofs.state.Direct.collect.Goals as goal

pub collect_batch-requires-clause-sums : goal.collect_batch-requires-clause-sums
collect_batch-requires-clause-sums g c =
    c.requires.may_run.sums c.in-Some.task.now (found_own c.args.name.now c.args.tasks.now c.in-Some.task.now (sym c.in-Some.ensures.task))
