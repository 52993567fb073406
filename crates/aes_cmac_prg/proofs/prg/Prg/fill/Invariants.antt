use Rattle.std.proofs.Common.{◌≡◌, ℕ, ◌+◌, ◌<◌, slice_index}
use Rattle.aes_cmac_prg.specs.Stream.{advanced, byte_at}
use Rattle.aes_cmac_prg.proofs.prg.Prg.fill.Given as goal

abbrev pub invariant-loop-i : goal.invariant-loop-i
invariant-loop-i l = record {
  place : l.self ≡ advanced l.initial.self l.i;
  bytes : (k : ℕ) → k < l.i → slice_index l.buf k ≡ byte_at l.initial.self.key (l.initial.self.place + k);
}
