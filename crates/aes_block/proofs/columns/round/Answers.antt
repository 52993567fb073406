use Rattle.std.proofs.Common.{◌++◌}
use Rattle.aes_block.specs.State.{sub_bytes, shift_rows, mix_columns, add_round_key}
use Rattle.aes_block.specs.Cipher.{round}
use Rattle.aes_block.proofs.columns.round.Goals as goal

pub returns : goal.returns
unfolding round sub_bytes shift_rows mix_columns add_round_key
returns c = λ i. c.mixed_column.ensures i ++ c.mixed_column-2.ensures i ++ c.mixed_column-3.ensures i ++ c.mixed_column-4.ensures i
