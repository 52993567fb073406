use Rattle.std.proofs.Common.{length, ap, ◌∙◌, arith}
use Rattle.std.proofs.lemmas.List.{take_all}
use Rattle.report_journal.specs.Journal.{body}
use Rattle.report_journal.specs.Log.{contents}
use Rattle.report_journal.proofs.Bodies.{step_within, length-step}
use Rattle.report_journal.proofs.block.body_len.Goals as goal

pub overflow_add-size-in-loop-r : goal.overflow_add-size-in-loop-r
overflow_add-size-in-loop-r c =
    let within = step_within c.args.records.now c.loop-r.r-index c.r-item.result c.loop-r-test.true c.r-item.is in
    let ok = c.r-item.result.ok in
    omega (arith, within, ok, c.loop-r.invariant, c.len.ensures)

pub loop-r-preserved : goal.loop-r-preserved
loop-r-preserved c =
    let more = length-step c.args.records.now c.loop-r.r-index c.r-item.result c.loop-r-test.true c.r-item.is in
    let ok = c.r-item.result.ok in
    omega (arith, more, ok, c.loop-r.invariant, c.len.ensures)

pub returns : goal.returns
returns c = c.loop-r.invariant ∙ ap (λ l. length (body (contents l))) (take_all c.loop-r.r-index c.args.records.now c.loop-r-test.false)
