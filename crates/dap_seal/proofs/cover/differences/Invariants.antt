use Rattle.std.proofs.Common.{◌≡◌, take}
use Rattle.dap_batch.specs.Checksum.{xor_bytes}
use Rattle.dap_seal.proofs.cover.differences.Given as goal

abbrev pub invariant-loop-i : goal.invariant-loop-i
invariant-loop-i l = l.bits.items ≡ xor_bytes (take l.i l.bytes) (take l.i l.others)
