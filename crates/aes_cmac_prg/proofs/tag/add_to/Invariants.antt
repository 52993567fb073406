use Rattle.std.proofs.Common.{◌≡◌, ℕ, ◌<◌, ◌≤◌, length, slice_index, bit_xor}
use Rattle.aes_cmac_prg.proofs.tag.add_to.Given as goal

abbrev pub invariant-loop-i : goal.invariant-loop-i
invariant-loop-i l = record {
  length_is : length l.sum ≡ 16;
  joined : (k : ℕ) → k < l.i → slice_index l.sum k ≡ bit_xor (slice_index l.initial.sum k) (slice_index l.block k);
  left : (k : ℕ) → l.i ≤ k → slice_index l.sum k ≡ slice_index l.initial.sum k;
}
