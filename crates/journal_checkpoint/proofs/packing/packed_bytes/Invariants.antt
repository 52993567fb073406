use Rattle.std.proofs.Common.{◌≡◌, ◌≤◌, ◌-◌, ◌++◌, List, ℕ, length, drop}
use Rattle.std.specs.Int.{to_be_bytes, w64}
use Rattle.report_journal.specs.Journal.{blocks}
use Rattle.report_journal.specs.Log.{contents}
use Rattle.journal_checkpoint.proofs.Packs.{PacksBefore}
use Rattle.journal_checkpoint.proofs.packing.packed_bytes.Given as goal

abbrev pub invariant-loop-at : goal.invariant-loop-at
invariant-loop-at l = record {
  within : l.at ≤ length l.records;
  parts : List (List (List ℕ));
  packs : PacksBefore (contents l.records) parts (contents (drop l.at l.records));
  bytes : l.out.items ≡ to_be_bytes w64 l.generation ++ blocks parts;
}

abbrev pub decreases-loop-at : goal.decreases-loop-at
decreases-loop-at l = length l.records - l.at
