use Rattle.replay_table.proofs.Removals.{get-others, get-removed, remove-insert}
use Rattle.replay_table.proofs.laws.a_report_taken_out_leaves_no_trace.Goals as goal

pub returns-clause-same : goal.returns-clause-same
returns-clause-same c table report job none = remove-insert table report job none

pub returns-clause-out : goal.returns-clause-out
returns-clause-out c table report = get-removed table report

pub returns-clause-others : goal.returns-clause-others
returns-clause-others c table report other differ = get-others table report other differ
