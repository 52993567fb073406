use Rattle.std.proofs.Common.{◌++◌}
use Rattle.dap_messages.specs.Reports.{has_key}
use Rattle.leader_lane.proofs.SoundLaws.{if_found}
use Rattle.leader_lane.proofs.judge.judge_report.Goals as goal

pub judge_known-requires-clause-known : goal.judge_known-requires-clause-known
judge_known-requires-clause-known g c =
    if_found (has_key c.args.r.now.name c.args.r.now.id) (c.args.records.now ++ c.args.block.now) c.find_report-known.result c.requires.records c.find_report-known.ensures
