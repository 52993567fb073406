use Rattle.std.proofs.Common.{◌≡◌, take}
use Rattle.dap_model.specs.State.{earliest, sharing}
use Rattle.dap_direct.proofs.batch.Batch.overlap.Given as goal

-- the one that starts first, of the batches so far
abbrev pub invariant-loop-batch : goal.invariant-loop-batch
invariant-loop-batch l = l.first ≡ earliest (sharing l.task l.span (take l.batch-index l.collected))
