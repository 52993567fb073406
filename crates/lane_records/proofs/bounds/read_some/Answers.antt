use Rattle.std.proofs.Common.{None}
use Rattle.std.proofs.lemmas.Result.{err_from_is_err_and}
use Rattle.lane_records.specs.Bounds.{bounds_at}
use Rattle.lane_records.proofs.Loop.{goes_on, ends}
use Rattle.lane_records.proofs.bounds.read_some.Goals as goal

pub returns-in_err-one : goal.returns-in_err-one
returns-in_err-one c =
    let p = err_from_is_err_and c.from_residual.result c.from_residual.ensures.1 in
    let total = bounds_at None c.args.count c.args.cursor.now in
    rw (p.1, p.2) (ends c.loop.last c.loop.found.items c.args.count c.loop.counter c.loop.cursor c.in_err-one.field-0.0.at total c.loop-test.true c.in_err-one.ensures c.loop.invariant)

pub loop-preserved : goal.loop-preserved
loop-preserved c =
    let total = bounds_at None c.args.count c.args.cursor.now in
    rw c.in_ok-push.ensures.items (goes_on c.loop.last c.loop.found.items c.args.count c.loop.counter c.loop.cursor c.in_ok-one.one c.read_bound.new.cursor total c.loop-test.true c.in_ok-one.ensures c.loop.invariant)
