use Rattle.std.proofs.Common.{◌≡◌, true, take}
use Rattle.std.specs.List.{list_all}
use Rattle.legal_journals.specs.HistoryTests.{is_of_lane}
use Rattle.legal_journals.proofs.helper_rules.are_of_lane.Given as goal

abbrev pub invariant-loop-x : goal.invariant-loop-x
invariant-loop-x l = list_all (λ x. is_of_lane l.lane x.id l.earlier) (take l.x-index l.halves) ≡ true
