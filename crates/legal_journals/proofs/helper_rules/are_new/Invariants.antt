use Rattle.std.proofs.Common.{◌≡◌, true, take}
use Rattle.std.specs.List.{list_all}
use Rattle.legal_journals.specs.LaneTests.{is_new}
use Rattle.legal_journals.proofs.helper_rules.are_new.Given as goal

abbrev pub invariant-loop-x : goal.invariant-loop-x
invariant-loop-x l = list_all (is_new l.name l.earlier) (take l.x-index l.outcomes) ≡ true
