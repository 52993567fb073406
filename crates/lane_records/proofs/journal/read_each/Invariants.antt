use Rattle.lane_records.specs.Journal.{bytes_of}
use Rattle.lane_records.proofs.Entries.{IsRead}
use Rattle.lane_records.proofs.journal.read_each.Given as goal

abbrev pub invariant-loop-text : goal.invariant-loop-text
invariant-loop-text l = IsRead (bytes_of l.texts) l.text-index l.records.items
