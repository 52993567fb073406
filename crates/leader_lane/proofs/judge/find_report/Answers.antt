use Rattle.std.proofs.Common.{◌++◌}
use Rattle.leader_lane.proofs.FoundLaws.{found_none, found_past, found_at, found_other}
use Rattle.leader_lane.proofs.judge.find_report.Goals as goal

pub returns-in_err-place : goal.returns-in_err-place
returns-in_err-place c =
    found_none c.args.name.now c.args.id.now (c.args.records.now ++ c.args.block.now) c.accepted.result c.from_residual.result (c.accepted.ensures c.args.records.now c.args.block.now c.requires) c.in_err-place.was c.from_residual.ensures

pub returns-in_err-r : goal.returns-in_err-r
returns-in_err-r c =
    found_past c.args.name.now c.args.id.now (c.args.records.now ++ c.args.block.now) c.accepted.result c.in_ok-place.place c.record_at.result c.from_residual-in_err-r.result (c.accepted.ensures c.args.records.now c.args.block.now c.requires) c.in_ok-place.was
    c.record_at.ensures c.in_err-r.was c.from_residual-in_err-r.ensures

pub returns-in-Accept : goal.returns-in-Accept
returns-in-Accept c =
    found_at c.args.name.now c.args.id.now (c.args.records.now ++ c.args.block.now) c.accepted.result c.in_ok-place.place c.record_at.result c.in_ok-r.field-0 c.in-Accept.r (c.accepted.ensures c.args.records.now c.args.block.now c.requires) c.in_ok-place.was
    c.record_at.ensures c.in_ok-r.was c.in-Accept.is

pub returns-in_default : goal.returns-in_default
returns-in_default c =
    found_other c.args.name.now c.args.id.now (c.args.records.now ++ c.args.block.now) c.accepted.result c.in_ok-place.place c.record_at.result c.in_ok-r.field-0 (c.accepted.ensures c.args.records.now c.args.block.now c.requires) c.in_ok-place.was
    c.record_at.ensures c.in_ok-r.was c.in_default.not-Accept
