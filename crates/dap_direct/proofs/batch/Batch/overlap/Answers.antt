use Rattle.std.proofs.Common.{cond, Some, ap, ◌∙◌}
use Rattle.dap_model.specs.State.{shares_with}
use Rattle.dap_direct.proofs.EarliestLemmas.{sharing-next}
use Rattle.dap_direct.specs.Earlier.{earlier_of}
use Rattle.dap_direct.proofs.batch.Batch.overlap.Goals as goal

pub loop-batch-preserved : goal.loop-batch-preserved
loop-batch-preserved c =
    let task = c.args.task.now in
    let span = c.args.span.now in
    let batch = c.batch-item.result in
    c.or_first-first.ensures ∙ ap (λ o. cond (shares_with task span batch) (Some (earlier_of o batch.span)) o) c.loop-batch.invariant
    ∙ sharing-next task span c.args.collected.now c.loop-batch.batch-index batch c.loop-batch-test.true c.batch-item.is
