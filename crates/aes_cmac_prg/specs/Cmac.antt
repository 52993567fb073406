-- CMAC with AES-128 (NIST SP 800-38B, RFC 4493). A key, a block and a tag are lists of 16 bytes, and a text is a list of bytes.
use Rattle.std.specs.Prelude.{ℕ, ◌-◌, ◌*◌, ◌/◌, ◌%◌, ◌^◌, ◌==◌, List, ◌∷◌, ◌++◌, length, take, drop, replicate, bit_xor, if◌then◌else◌}
use Rattle.std.specs.Int.{w128, from_be_bytes, to_be_bytes}
use Rattle.std.proofs.Common.{zero, suc}
use Rattle.aes_block.specs.Cipher.{encrypt}
use Rattle.aes_block.specs.Schedule.{add_bytes}

-- a block shifted left by one bit, with 87 hex added to its last byte if its first bit was 1
unfoldable pub doubled : List ℕ → List ℕ
doubled block =
    let n = from_be_bytes w128 block in
    let shifted = n * 2 % 2 ^ 128 in
    to_be_bytes w128 (if n / 2 ^ 127 == 1 then bit_xor shifted 0x87 else shifted)

-- the first subkey, from the encryption of the zero block
unfoldable pub first_subkey : List ℕ → List ℕ
first_subkey key = doubled (encrypt key (replicate 16 0))

-- the subkey after the first
unfoldable pub second_subkey : List ℕ → List ℕ
second_subkey key = doubled (first_subkey key)

-- how many whole blocks stand before the last one; the empty text has a last block too
abbrev pub before_last : List ℕ → ℕ
before_last text = (length text - 1) / 16

-- a part shorter than a block, followed by 80 hex and zeros
abbrev pub padded : List ℕ → List ℕ
padded part = part ++ 0x80 ∷ replicate (15 - length part) 0

-- the last block: a whole one is joined with K1, a padded one with K2
unfoldable pub last_block : List ℕ → List ℕ → List ℕ
last_block key part =
    if length part == 16 then add_bytes part (first_subkey key) else add_bytes (padded part) (second_subkey key)

-- the chained encryption of the first n blocks of a text: each is joined with the encryption so far and encrypted
unfoldable pub chained : List ℕ → List ℕ → ℕ → List ℕ
chained key text zero = replicate 16 0
chained key text (suc n) = encrypt key (add_bytes (chained key text n) (take 16 (drop (16 * n) text)))

-- the tag of a text under a key
unfoldable pub cmac : List ℕ → List ℕ → List ℕ
cmac key text =
    encrypt key (add_bytes (chained key text (before_last text)) (last_block key (drop (16 * before_last text) text)))
