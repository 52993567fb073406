use Rattle.std.proofs.Common.{◌≡◌, ◌≤◌, ◌-◌, length, take}
use Rattle.dap_bytes.specs.declared.limits.TheConstants.{LONGEST_BLOCK}
use Rattle.report_journal.specs.Journal.{body}
use Rattle.report_journal.specs.Log.{contents}
use Rattle.report_journal.proofs.packing.fitting.Given as goal

abbrev pub invariant-loop-n : goal.invariant-loop-n
invariant-loop-n l = record {
  within : l.n ≤ length l.records;
  sized : l.size ≡ length (body (contents (take l.n l.records)));
  small : l.size ≤ LONGEST_BLOCK;
}

abbrev pub decreases-loop-n : goal.decreases-loop-n
decreases-loop-n l = length l.records - l.n
