use Rattle.std.proofs.Common.{◌++◌, slice_index}
use Rattle.aes_block.specs.State.{add_round_key}
use Rattle.aes_block.proofs.Words.{to_be_bytes-xor}
use Rattle.aes_block.proofs.columns.add_round_key.Goals as goal

pub returns : goal.returns
unfolding add_round_key
returns c =
    let s = c.args.state.now in
    let k = c.args.key.now in
    λ i. to_be_bytes-xor (slice_index s 0) (slice_index k 0) i ++ to_be_bytes-xor (slice_index s 1) (slice_index k 1) i
    ++ to_be_bytes-xor (slice_index s 2) (slice_index k 2) i ++ to_be_bytes-xor (slice_index s 3) (slice_index k 3) i
