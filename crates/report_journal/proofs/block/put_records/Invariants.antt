use Rattle.std.proofs.Common.{◌≡◌, ◌++◌, take}
use Rattle.report_journal.specs.Journal.{body}
use Rattle.report_journal.specs.Log.{contents}
use Rattle.report_journal.proofs.block.put_records.Given as goal

abbrev pub invariant-loop-r : goal.invariant-loop-r
invariant-loop-r l = l.out.items ≡ l.initial.out.items ++ body (contents (take l.r-index l.records))
