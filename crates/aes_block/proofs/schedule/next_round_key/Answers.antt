use Rattle.std.proofs.Common.{ℕ, List, [], ◌∷◌, slice_index, bit_xor, ◌≡◌, ◌∙◌}
use Rattle.std.specs.Int.{w32, to_be_bytes}
use Rattle.aes_block.specs.Schedule.{add_bytes}
use Rattle.aes_block.proofs.Words.{to_be_bytes-xor}
use Rattle.aes_block.proofs.schedule.next_round_key.Goals as goal

-- the bytes of a sum, where those of the second word are known
sum_with : (x y : ℕ) (ys : List ℕ) → to_be_bytes w32 y ≡ ys → to_be_bytes w32 (bit_xor x y) ≡ add_bytes (to_be_bytes w32 x) ys
sum_with x y ys e = to_be_bytes-xor x y ∙ (λ i. add_bytes (to_be_bytes w32 x) (e i))

pub returns : goal.returns
returns c =
    let ws = c.args.previous in
    let first = sum_with (slice_index ws 0) c.turned.result _ c.turned.ensures in
    let second = sum_with (slice_index ws 1) _ _ first in
    let third = sum_with (slice_index ws 2) _ _ second in
    let fourth = sum_with (slice_index ws 3) _ _ third in
    λ i. first i ∷ second i ∷ third i ∷ fourth i ∷ []
