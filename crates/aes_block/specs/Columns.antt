-- A state or a round's key as four words of 32 bits, each a column with its first row in the high byte.
use Rattle.std.specs.Prelude.{◌≡◌, ℕ, ◌<◌, List, [], ◌∷◌, slice_index, slice_index_or}
use Rattle.std.specs.Int.{w32, to_be_bytes}
use Rattle.std.specs.List.{concat}
use Rattle.aes_block.specs.State.{matrix}
use Rattle.aes_block.specs.Byte.{times, sub_byte}
use Rattle.aes_block.specs.Schedule.{add_bytes, turned, round_words}

-- the bytes of each of four words
abbrev pub words_of : List ℕ → List (List ℕ)
words_of ws =
    to_be_bytes w32 (slice_index ws 0) ∷ to_be_bytes w32 (slice_index ws 1) ∷ to_be_bytes w32 (slice_index ws 2) ∷ to_be_bytes w32 (slice_index ws 3) ∷ []

-- the 16 bytes of four words
abbrev pub bytes_of : List ℕ → List ℕ
bytes_of ws = concat (words_of ws)

-- column k of the matrix of MixColumns times a byte
abbrev pub column_times : ℕ → ℕ → List ℕ
column_times k b = times (matrix 0 k) b ∷ times (matrix 1 k) b ∷ times (matrix 2 k) b ∷ times (matrix 3 k) b ∷ []

-- row r of a column
abbrev pub row : ℕ → ℕ → ℕ
row w r = slice_index (to_be_bytes w32 w) r

-- four bytes of the state through SubBytes and the matrix of MixColumns, joined with a word of the round's key
abbrev pub mixed_column : ℕ → ℕ → ℕ → ℕ → ℕ → List ℕ
mixed_column a b c d key =
    add_bytes (add_bytes (add_bytes (add_bytes (column_times 0 (sub_byte (row a 0))) (column_times 1 (sub_byte (row b 1)))) (column_times 2 (sub_byte (row c 2)))) (column_times 3 (sub_byte (row d 3)))) (to_be_bytes w32 key)

-- the same without the matrix
abbrev pub last_column : ℕ → ℕ → ℕ → ℕ → ℕ → List ℕ
last_column a b c d key =
    add_bytes (sub_byte (row a 0) ∷ sub_byte (row b 1) ∷ sub_byte (row c 2) ∷ sub_byte (row d 3) ∷ []) (to_be_bytes w32 key)

-- the words of round n, from those of the round before
abbrev pub next_words : List (List ℕ) → ℕ → List (List ℕ)
next_words ws n =
    let first = add_bytes (slice_index_or ws 0 []) (turned (slice_index_or ws 3 []) n) in
    let second = add_bytes (slice_index_or ws 1 []) first in
    let third = add_bytes (slice_index_or ws 2 []) second in
    first ∷ second ∷ third ∷ add_bytes (slice_index_or ws 3 []) third ∷ []

-- the first n of these are the keys of rounds 0 to n - 1
abbrev pub AreRoundKeys : List ℕ → ℕ → List (List ℕ) → Type 0
AreRoundKeys key n keys = (i : ℕ) → i < n → words_of (slice_index_or keys i []) ≡ round_words key i

-- the key from which the round keys were made: it is the first of them
abbrev pub key_of : List (List ℕ) → List ℕ
key_of keys = bytes_of (slice_index_or keys 0 [])
