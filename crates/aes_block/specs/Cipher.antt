-- AES-128 of one block (FIPS 197, section 5.1). Keys and blocks are lists of 16 bytes.
use Rattle.std.specs.Prelude.{ℕ, List}
use Rattle.std.proofs.Common.{zero, suc}
use Rattle.aes_block.specs.State.{sub_bytes, shift_rows, mix_columns, add_round_key}
use Rattle.aes_block.specs.Schedule.{round_key}

-- a round but the last
unfoldable pub round : List ℕ → List ℕ → List ℕ
round s key = add_round_key (mix_columns (shift_rows (sub_bytes s))) key

-- the last round, which has no MixColumns
unfoldable pub last_round : List ℕ → List ℕ → List ℕ
last_round s key = add_round_key (shift_rows (sub_bytes s)) key

-- the state after n rounds but the last
unfoldable pub rounds : List ℕ → List ℕ → ℕ → List ℕ
rounds key block zero = add_round_key block (round_key key 0)
rounds key block (suc n) = round (rounds key block n) (round_key key (suc n))

-- the encryption of a block under a key: ten rounds
unfoldable pub encrypt : List ℕ → List ℕ → List ℕ
encrypt key block = last_round (rounds key block 9) (round_key key 10)
