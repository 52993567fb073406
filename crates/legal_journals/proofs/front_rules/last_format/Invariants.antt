use Rattle.std.proofs.Common.{◌≡◌, take, reverse}
use Rattle.legal_journals.specs.History.{first, format_in}
use Rattle.legal_journals.proofs.front_rules.last_format.Given as goal

abbrev pub invariant-loop-x : goal.invariant-loop-x
invariant-loop-x l = l.last ≡ first format_in (reverse (take l.x-index l.earlier))
