use Rattle.std.proofs.Common.{ℕ, List, slice_index, ap, ◌∙◌}
use Rattle.aes_block.specs.Byte.{sub_byte}
use Rattle.aes_block.specs.Columns.{column_times}
use Rattle.aes_block.proofs.Words.{to_be_bytes-sum}
use Rattle.aes_block.proofs.columns.mixed_column.Goals as goal

pub returns : goal.returns
returns c =
    let at = λ (k : ℕ) (bytes : List ℕ). column_times k (sub_byte (slice_index bytes k)) in
    to_be_bytes-sum c.mixed_0.result c.mixed_1.result c.mixed_2.result c.mixed_3.result c.args.key _ _ _ _
    (c.mixed_0.ensures ∙ ap (at 0) c.to_be_bytes.ensures) (c.mixed_1.ensures ∙ ap (at 1) c.to_be_bytes-2.ensures)
    (c.mixed_2.ensures ∙ ap (at 2) c.to_be_bytes-3.ensures) (c.mixed_3.ensures ∙ ap (at 3) c.to_be_bytes-4.ensures)
