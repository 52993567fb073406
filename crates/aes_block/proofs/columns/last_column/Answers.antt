use Rattle.std.proofs.Common.{ℕ, List, ◌∷◌, [], slice_index, ap, ◌∙◌, arith}
use Rattle.std.specs.Int.{w32, to_be_bytes}
use Rattle.aes_block.specs.Byte.{sub_byte}
use Rattle.aes_block.specs.Schedule.{add_bytes}
use Rattle.aes_block.proofs.Words.{to_be_bytes-xor, to_be_bytes-from}
use Rattle.aes_block.proofs.columns.last_column.Goals as goal

pub returns : goal.returns
returns c =
    let at = λ (k : ℕ) (bytes : List ℕ). sub_byte (slice_index bytes k) in
    let first = c.substituted.ensures ∙ ap (at 0) c.to_be_bytes.ensures in
    let second = c.substituted-2.ensures ∙ ap (at 1) c.to_be_bytes-2.ensures in
    let third = c.substituted-3.ensures ∙ ap (at 2) c.to_be_bytes-3.ensures in
    let fourth = c.substituted-4.ensures ∙ ap (at 3) c.to_be_bytes-4.ensures in
    let bytes = ap (λ n. to_be_bytes w32 n) c.from_be_bytes.ensures ∙ to_be_bytes-from c.substituted.result c.substituted-2.result c.substituted-3.result c.substituted-4.result (omega arith) (omega arith) (omega arith) (omega arith) in
    to_be_bytes-xor c.from_be_bytes.result c.args.key
    ∙ ap (λ xs. add_bytes xs (to_be_bytes w32 c.args.key)) (bytes ∙ (λ i. first i ∷ second i ∷ third i ∷ fourth i ∷ []))
