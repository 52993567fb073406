use Rattle.std.proofs.Common.{◌≡◌}
use Rattle.aes_block.specs.Columns.{bytes_of}
use Rattle.aes_block.specs.Cipher.{rounds}
use Rattle.aes_block.proofs.key.Key.encrypt.Given as goal

abbrev pub invariant-loop-done : goal.invariant-loop-done
invariant-loop-done l = bytes_of l.state ≡ rounds l.self l.fn.block l.done
