use Rattle.std.proofs.Common.{◌+◌, slice_index, ap, ◌∙◌, arith}
use Rattle.std.specs.Int.{w32, to_be_bytes}
use Rattle.aes_block.proofs.Words.{to_be_bytes-from, four_from}
use Rattle.aes_block.proofs.columns.column_at.Goals as goal

pub returns : goal.returns
returns c =
    let xs = c.args.block.now in
    let k = c.args.start in
    ap (λ n. to_be_bytes w32 n) c.from_be_bytes.ensures
    ∙ to_be_bytes-from (slice_index xs k) (slice_index xs (k + 1)) (slice_index xs (k + 2)) (slice_index xs (k + 3)) (omega arith) (omega arith) (omega arith) (omega arith)
    ∙ four_from xs k (omega arith)
