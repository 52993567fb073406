use Rattle.std.proofs.Common.{◌≡◌, ◌++◌, length, ap, ◌∙◌, sym, arith, append_assoc, take}
use Rattle.std.proofs.lemmas.List.{take_all}
use Rattle.std.specs.Int.{to_be_bytes, w32}
use Rattle.report_journal.specs.Journal.{body}
use Rattle.report_journal.specs.Log.{contents}
use Rattle.report_journal.proofs.Bodies.{step_within, step}
use Rattle.report_journal.proofs.block.put_records.Goals as goal

pub overflow_cast-len : goal.overflow_cast-len
overflow_cast-len c =
    let within = step_within c.args.records.now c.loop-r.r-index c.r-item.result c.loop-r-test.true c.r-item.is in
    let ok = c.r-item.result.ok in
    omega (arith, within, ok, c.requires, c.len.ensures)

pub loop-r-preserved : goal.loop-r-preserved
loop-r-preserved c =
    let more = step c.args.records.now c.loop-r.r-index c.r-item.result c.loop-r-test.true c.r-item.is in
    let ok = c.r-item.result.ok in
    let n : c.len.result ≡ length c.r-item.result.items = omega (arith, ok, c.len.ensures) in
    let was = body (contents (take c.loop-r.r-index c.args.records.now)) in
    c.in_ok-extend_from_slice.ensures.items
    ∙ ap (λ l. l ++ c.deref.result.now) (c.in_ok-put_u32.ensures.ok ∙ ap (λ l. l ++ to_be_bytes w32 c.len.result) c.loop-r.invariant)
    ∙ append_assoc (c.args.out.now.items ++ was) (to_be_bytes w32 c.len.result) c.deref.result.now
    ∙ append_assoc c.args.out.now.items was (to_be_bytes w32 c.len.result ++ c.deref.result.now)
    ∙ ap (λ l. c.args.out.now.items ++ (was ++ l)) (ap (λ m. to_be_bytes w32 m ++ c.deref.result.now) n ∙ ap (λ l. to_be_bytes w32 (length c.r-item.result.items) ++ l) c.deref.ensures.value)
    ∙ ap (λ l. c.args.out.now.items ++ l) (sym more)

pub returns : goal.returns
returns c = c.loop-r.invariant ∙ ap (λ l. c.args.out.now.items ++ body (contents l)) (take_all c.loop-r.r-index c.args.records.now c.loop-r-test.false)
