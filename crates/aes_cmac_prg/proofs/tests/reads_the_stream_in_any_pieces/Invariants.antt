use Rattle.std.proofs.Common.{◌≡◌}
use Rattle.aes_cmac_prg.proofs.tests.reads_the_stream_in_any_pieces.Given as goal

abbrev pub invariant-bytes : goal.invariant-bytes
invariant-bytes g l = l.reading.place ≡ l.i
