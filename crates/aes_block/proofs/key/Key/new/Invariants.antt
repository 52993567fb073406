use Rattle.std.proofs.Common.{◌≡◌, length}
use Rattle.aes_block.specs.Columns.{AreRoundKeys, key_of}
use Rattle.aes_block.proofs.key.Key.new.Given as goal

abbrev pub invariant-loop-round : goal.invariant-loop-round
invariant-loop-round l = record {
  length_is : length l.round_keys ≡ 11;
  keys : AreRoundKeys l.fn.key l.round l.round_keys;
  first : key_of l.round_keys ≡ l.fn.key;
}
