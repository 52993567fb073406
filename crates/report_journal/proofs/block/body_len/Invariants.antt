use Rattle.std.proofs.Common.{◌≡◌, length, take}
use Rattle.report_journal.specs.Journal.{body}
use Rattle.report_journal.specs.Log.{contents}
use Rattle.report_journal.proofs.block.body_len.Given as goal

abbrev pub invariant-loop-r : goal.invariant-loop-r
invariant-loop-r l = l.size ≡ length (body (contents (take l.r-index l.records)))
