-- The key schedule (FIPS 197, section 5.2). A word is a list of four bytes.
use Rattle.std.specs.Prelude.{ℕ, ◌+◌, ◌-◌, ◌*◌, ◌/◌, ◌%◌, ◌==◌, List, [], ◌∷◌, ◌++◌, map, take, drop, slice_index, slice_index_or, bit_xor, if◌then◌else◌}
use Rattle.std.specs.List.{concat}
use Rattle.std.proofs.Common.{zero, suc}
use Rattle.aes_block.specs.Byte.{sub_byte}

-- the sum of two lists of bytes, byte by byte
abbrev pub add_bytes : List ℕ → List ℕ → List ℕ
add_bytes (x ∷ xs) (y ∷ ys) = bit_xor x y ∷ add_bytes xs ys
add_bytes _ _ = []

-- the constant of round n, from 1 on, in the word's first byte
abbrev pub round_constant : ℕ → List ℕ
round_constant n =
    slice_index (0x01 ∷ 0x02 ∷ 0x04 ∷ 0x08 ∷ 0x10 ∷ 0x20 ∷ 0x40 ∷ 0x80 ∷ 0x1b ∷ 0x36 ∷ []) (n - 1) ∷ 0 ∷ 0 ∷ 0 ∷ []

-- a word turned left by one byte, substituted and joined with the constant of round n
abbrev pub turned : List ℕ → ℕ → List ℕ
turned w n = add_bytes (map sub_byte (drop 1 w ++ take 1 w)) (round_constant n)

-- word i from the words before it
abbrev pub next_word : List (List ℕ) → ℕ → List ℕ
next_word ws i =
    let last = slice_index_or ws (i - 1) [] in
    add_bytes (slice_index_or ws (i - 4) []) (if i % 4 == 0 then turned last (i / 4) else last)

-- the first 4 + n words of a key's schedule
unfoldable pub schedule : List ℕ → ℕ → List (List ℕ)
schedule key zero = take 4 key ∷ take 4 (drop 4 key) ∷ take 4 (drop 8 key) ∷ take 4 (drop 12 key) ∷ []
schedule key (suc n) = schedule key n ++ next_word (schedule key n) (4 + n) ∷ []

-- word i of the 44
unfoldable pub word : List ℕ → ℕ → List ℕ
word key i = slice_index_or (schedule key 40) i []

-- the four words of round n
abbrev pub round_words : List ℕ → ℕ → List (List ℕ)
round_words key n = word key (4 * n) ∷ word key (4 * n + 1) ∷ word key (4 * n + 2) ∷ word key (4 * n + 3) ∷ []

-- the key of round n: its words, one behind the other
abbrev pub round_key : List ℕ → ℕ → List ℕ
round_key key n = concat (round_words key n)
