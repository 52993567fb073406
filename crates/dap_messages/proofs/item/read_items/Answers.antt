use Rattle.std.proofs.Common.{None}
use Rattle.std.proofs.lemmas.Result.{err_from_is_err_and}
use Rattle.dap_messages.specs.Grammar.{items_at}
use Rattle.dap_messages.proofs.Loop.{goes_on, fails}
use Rattle.dap_messages.proofs.item.read_items.Goals as goal

pub returns-in_err-one : goal.returns-in_err-one
returns-in_err-one g c =
    let p = err_from_is_err_and c.from_residual.result c.from_residual.ensures.1 in
    let total = items_at g.B.Spelled.grammar None c.args.count c.args.cursor.now in
    rw (p.1, p.2) (fails g.B.Spelled.grammar c.loop.last c.loop.items.items c.args.count c.loop.counter c.loop.cursor c.in_err-one.field-0.0 c.read_item.new.cursor total c.loop-test.true c.in_err-one.ensures c.loop.invariant)

pub loop-preserved : goal.loop-preserved
loop-preserved g c =
    let total = items_at g.B.Spelled.grammar None c.args.count c.args.cursor.now in
    rw (c.in_ok-push.ensures.items, c.id.ensures) (goes_on g.B.Spelled.grammar c.loop.last c.loop.items.items c.args.count c.loop.counter c.loop.cursor c.in_ok-one.one c.read_item.new.cursor total c.loop-test.true c.in_ok-one.ensures c.loop.invariant)
