use Rattle.std.proofs.Common.{◌≡◌, ◌≤◌, ◌-◌, length}
use Rattle.report_journal.specs.Log.{contents}
use Rattle.report_journal.specs.Reading.{Behind}
use Rattle.report_journal.proofs.grammar.parse_blocks.Given as goal

abbrev pub invariant-loop-at : goal.invariant-loop-at
invariant-loop-at l = record {
  behind : Behind (contents l.records.items) l.at l.file;
  count : length behind.parts ≡ l.blocks;
  few : l.blocks ≤ l.at;
}

abbrev pub decreases-loop-at : goal.decreases-loop-at
decreases-loop-at l = length l.file - l.at
