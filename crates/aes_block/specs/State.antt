-- The state, and what a round does to it (FIPS 197, sections 3.4 and 5.1).
-- A state is a list of 16 bytes: byte number r + 4c stands in row r, column c.
use Rattle.std.specs.Prelude.{ℕ, ◌+◌, ◌-◌, ◌*◌, ◌/◌, ◌%◌, List, [], ◌∷◌, map, slice_index, bit_xor}
use Rattle.std.specs.List.{range_with_len}
use Rattle.aes_block.specs.Byte.{times, sub_byte}

-- the byte in row r, column c
abbrev pub at : List ℕ → ℕ → ℕ → ℕ
at s r c = slice_index s (r + 4 * c)

-- the state with f r c in row r, column c
abbrev pub state : (ℕ → ℕ → ℕ) → List ℕ
state f = map (λ i. f (i % 4) (i / 4)) (range_with_len 0 16)

-- SubBytes: each byte through `sub_byte`
unfoldable pub sub_bytes : List ℕ → List ℕ
sub_bytes s = state (λ r c. sub_byte (at s r c))

-- row r turned left by r places
unfoldable pub shift_rows : List ℕ → List ℕ
shift_rows s = state (λ r c. at s r ((c + r) % 4))

-- the matrix of MixColumns: each row is the one above turned right by one place
abbrev pub matrix : ℕ → ℕ → ℕ
matrix r c = slice_index (0x02 ∷ 0x03 ∷ 0x01 ∷ 0x01 ∷ []) ((c + 4 - r) % 4)

-- row r of the matrix times column c of the state
abbrev pub mixed : List ℕ → ℕ → ℕ → ℕ
mixed s r c =
    bit_xor (bit_xor (bit_xor (times (matrix r 0) (at s 0 c)) (times (matrix r 1) (at s 1 c))) (times (matrix r 2) (at s 2 c))) (times (matrix r 3) (at s 3 c))

-- MixColumns: the matrix times each column
unfoldable pub mix_columns : List ℕ → List ℕ
mix_columns s = state (λ r c. mixed s r c)

-- AddRoundKey: each byte joined with that of the key at its place
unfoldable pub add_round_key : List ℕ → List ℕ → List ℕ
add_round_key s key = state (λ r c. bit_xor (at s r c) (at key r c))
