use Rattle.std.proofs.Common.{◌≡◌, true, take}
use Rattle.std.specs.List.{list_all}
use Rattle.legal_journals.specs.FrontTests.{is_clear_ask}
use Rattle.legal_journals.proofs.front_rules.are_clear_asks.Given as goal

abbrev pub invariant-loop-x : goal.invariant-loop-x
invariant-loop-x l = list_all (is_clear_ask l.name l.span l.precision) (take l.x-index l.earlier) ≡ true
