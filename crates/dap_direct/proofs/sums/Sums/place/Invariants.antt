use Rattle.std.proofs.Common.{◌≡◌, ◌+◌, drop}
use Rattle.std.specs.List.{position_or_len}
use Rattle.dap_direct.specs.Sums.{is_of}
use Rattle.dap_direct.proofs.sums.Sums.place.Given as goal

-- none of the sums so far is the batch's
abbrev pub invariant-loop-batch : goal.invariant-loop-batch
invariant-loop-batch l = record {
  counted : l.place ≡ l.batch-index;
  left : l.place + position_or_len (is_of l.task l.start) (drop l.batch-index l.sums) ≡ position_or_len (is_of l.task l.start) l.sums;
}
