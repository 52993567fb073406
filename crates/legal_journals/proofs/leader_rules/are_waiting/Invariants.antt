use Rattle.std.proofs.Common.{◌≡◌, true, take}
use Rattle.std.specs.List.{list_all}
use Rattle.legal_journals.specs.LaneTests.{is_waiting}
use Rattle.legal_journals.proofs.leader_rules.are_waiting.Given as goal

abbrev pub invariant-loop-x : goal.invariant-loop-x
invariant-loop-x l = list_all (is_waiting l.name l.earlier) (take l.x-index l.steps) ≡ true
