use Rattle.std.proofs.Common.{◌≡◌, ◌++◌, take, drop}
use Rattle.dap_batch.specs.Checksum.{xor_bytes}
use Rattle.dap_batch.proofs.checksum.xor.Given as goal

abbrev pub invariant-loop-i : goal.invariant-loop-i
invariant-loop-i l = l.differences ≡ xor_bytes (take l.i l.left) (take l.i l.right) ++ drop l.i l.left
