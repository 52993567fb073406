use Rattle.std.proofs.Common.{◌≡◌, drop}
use Rattle.dap_messages.specs.Reports.{known_in}
use Rattle.dap_direct.proofs.accepted.Accepted.find.Given as goal

-- none of the reports so far has the task and the identifier
abbrev pub invariant-loop-report : goal.invariant-loop-report
invariant-loop-report l = known_in (drop l.report-index l.self) l.task l.id ≡ known_in l.self l.task l.id
