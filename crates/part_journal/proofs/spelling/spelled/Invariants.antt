use Rattle.std.proofs.Common.{◌≡◌, map, take}
use Rattle.report_journal.specs.Log.{contents}
use Rattle.part_journal.proofs.spelling.spelled.Given as goal

abbrev pub invariant-loop-x : goal.invariant-loop-x
invariant-loop-x g l = contents l.out.items ≡ map g.R.Spelled.grammar.spell (take l.x-index l.block)
