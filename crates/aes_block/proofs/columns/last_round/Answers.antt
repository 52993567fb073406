use Rattle.std.proofs.Common.{◌++◌}
use Rattle.aes_block.specs.State.{sub_bytes, shift_rows, add_round_key}
use Rattle.aes_block.specs.Cipher.{last_round}
use Rattle.aes_block.proofs.columns.last_round.Goals as goal

pub returns : goal.returns
unfolding last_round sub_bytes shift_rows add_round_key
returns c = λ i. c.last_column.ensures i ++ c.last_column-2.ensures i ++ c.last_column-3.ensures i ++ c.last_column-4.ensures i
