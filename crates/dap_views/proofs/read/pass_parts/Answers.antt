use Rattle.std.proofs.Common.{None}
use Rattle.std.proofs.lemmas.Result.{err_from_is_err_and}
use Rattle.dap_messages.specs.Forms.{half}
use Rattle.dap_messages.specs.Grammar.{items_at}
use Rattle.dap_views.specs.Parts.{item_of}
use Rattle.dap_views.proofs.Walk.{end_of, fails, goes_on}
use Rattle.dap_views.proofs.read.pass_parts.Goals as goal

pub returns-in_err-part : goal.returns-in_err-part
returns-in_err-part c =
    let p = err_from_is_err_and c.from_residual.result c.from_residual.ensures.1 in
    let total = items_at half None c.args.count c.args.cursor.now in
    rw (p.1, p.2) (fails c.loop.last c.args.count c.loop.counter c.loop.cursor c.in_err-part.field-0.0 c.read_part.new.cursor total c.loop-test.true c.in_err-part.ensures c.loop.invariant)

pub loop-preserved : goal.loop-preserved
loop-preserved c =
    let total = end_of (items_at half None c.args.count c.args.cursor.now) in
    goes_on c.loop.last c.args.count c.loop.counter c.loop.cursor (item_of c.in_ok-part.part) c.read_part.new.cursor total c.loop-test.true c.in_ok-part.ensures c.loop.invariant
