-- The stream of a seed and an info text: the encryptions of the numbers 0, 1, 2 and so on under the key CMAC(seed, info).
use Rattle.std.specs.Prelude.{ℕ, ◌+◌, ◌/◌, ◌%◌, List, [], ◌∷◌, ◌++◌, map, slice_index}
use Rattle.std.specs.Int.{w128, to_be_bytes}
use Rattle.std.specs.List.{range_with_len}
use Rattle.aes_block.specs.Cipher.{encrypt}
use Rattle.aes_cmac_prg.specs.Cmac.{cmac}

-- the encryption of a number in 16 bytes, high byte first
unfoldable pub stream_block : List ℕ → ℕ → List ℕ
stream_block key number = encrypt key (to_be_bytes w128 number)

-- byte i of the stream under a key
unfoldable pub byte_at : List ℕ → ℕ → ℕ
byte_at key i = slice_index (stream_block key (i / 16)) (i % 16)

-- n bytes from a place on
abbrev pub bytes_at : List ℕ → ℕ → ℕ → List ℕ
bytes_at key place n = map (byte_at key) (range_with_len place n)

-- the first n bytes of the stream of a seed and an info text
abbrev pub stream : List ℕ → List ℕ → ℕ → List ℕ
stream seed info n = bytes_at (cmac seed info) 0 n

-- what a contract sees of a `Prg`: the key of its stream, and how many bytes were taken
pub record Reading : Type 0 where
  pub key : List ℕ
  pub place : ℕ

-- a reading after n more bytes
abbrev pub advanced : Reading → ℕ → Reading
advanced reading n = record { key = reading.key; place = reading.place + n }

-- the bytes of readings one after another, of the given sizes
abbrev pub in_pieces : List ℕ → ℕ → List ℕ → List ℕ
in_pieces key place [] = []
in_pieces key place (size ∷ sizes) = bytes_at key place size ++ in_pieces key (place + size) sizes
