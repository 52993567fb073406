use Rattle.std.proofs.Common.{rules}
use Rattle.std.proofs.lemmas.Result.{err_from_is_err_and}
use Rattle.lane_records.proofs.Entries.{goes_on, fails}
use Rattle.lane_records.proofs.journal.read_each.Goals as goal

pub returns-in_err-record-clause-first_fault : goal.returns-in_err-record-clause-first_fault
returns-in_err-record-clause-first_fault c =
    let p = err_from_is_err_and c.from_residual.result c.from_residual.ensures.1 in
    rw (p.1, p.2) (fails c.args.texts.now c.loop-text.text-index c.text-item.result c.deref.result.now c.loop-text.records.items c.len.result c.in_err-record.field-0.0 c.loop-text-test.true c.text-item.is c.deref.ensures.value c.loop-text.invariant (search rules) c.in_err-record.ensures.first_fault)

pub loop-text-preserved : goal.loop-text-preserved
loop-text-preserved c =
    rw c.in_ok-push.ensures.items (goes_on c.args.texts.now c.loop-text.text-index c.text-item.result c.deref.result.now c.loop-text.records.items c.in_ok-record.record c.loop-text-test.true c.text-item.is c.deref.ensures.value c.loop-text.invariant c.in_ok-record.ensures.first_fault c.in_ok-record.ensures.read_as_spelled.0 c.in_ok-record.ensures.read_as_spelled.1)
