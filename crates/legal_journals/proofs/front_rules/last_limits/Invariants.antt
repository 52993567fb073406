use Rattle.std.proofs.Common.{◌≡◌, take}
use Rattle.legal_journals.specs.FrontTests.{last_limits}
use Rattle.legal_journals.proofs.front_rules.last_limits.Given as goal

abbrev pub invariant-loop-x : goal.invariant-loop-x
invariant-loop-x l = l.last ≡ last_limits l.name (take l.x-index l.earlier)
