-- The toy function: a number below 2 ^ 32 in two shares modulo 2 ^ 64.
use Rattle.std.specs.Prelude.{ℕ, ◌+◌, ◌-◌, ◌%◌, List, [], ◌∷◌, length, take, Bool, true, false, ◌&&◌, nat_eq, nat_lt, Option, Some, None}
use Rattle.std.proofs.Common.{get_or}
use Rattle.field_laws.specs.Bytes.{low_bytes, from_low}
use Rattle.vdaf_api.specs.declared.space.Space.{Space}
use Rattle.vdaf_api.specs.declared.role.Role.{Role}
use Rattle.vdaf_api.specs.declared.answer.Answer.TheVariants.{Sum}
use Rattle.vdaf_api.specs.declared.toy.TheConstants.{LIMIT, MODULUS}
use Rattle.vdaf_api.specs.Functions.{Functions, Parts, ◌>>=◌}
use Rattle.vdaf_api.specs.Vectors.{when, vector}

-- an out share is one number below 2 ^ 64, in 8 bytes
abbrev pub toy_space : Space
toy_space = record { modulus = MODULUS; width = 8; size = 1 }

-- no bytes
abbrev pub is_empty : List ℕ → Bool
is_empty bytes = nat_eq (length bytes) 0

-- there is a vector
abbrev pub some_vector : Option (List ℕ) → Bool
some_vector (Some xs) = true
some_vector None = false

-- whether the bytes are an out share
unfoldable pub is_toy : List ℕ → Bool
is_toy bytes = some_vector (vector toy_space bytes)

-- the helper's share: the number that the seed's first 8 bytes spell
abbrev pub toy_helper : List ℕ → ℕ
toy_helper seed = from_low (take 8 seed) % MODULUS

-- the leader's share: the measurement minus that
abbrev pub toy_leader : ℕ → List ℕ → ℕ
toy_leader m seed = (m + (MODULUS - toy_helper seed)) % MODULUS

-- both shares in 8 bytes each, with an empty public share
abbrev pub toy_parts : ℕ → List ℕ → Parts
toy_parts m seed = record { public = []; leader = low_bytes 8 (toy_leader m seed); helper = low_bytes 8 (toy_helper seed) }

-- the number of a list of one number below 2 ^ 32; none for another list
abbrev pub toy_value : List ℕ → Option ℕ
toy_value [] = None
toy_value (m ∷ []) = when (nat_lt m LIMIT) (Some m)
toy_value (m ∷ (n ∷ ms)) = None

-- the shares of such a list
unfoldable pub toy_shard : List ℕ → List ℕ → List ℕ → Option Parts
toy_shard id ms seed = toy_value ms >>= λ m. Some (toy_parts m seed)

-- whether a half is one: no public share, and an out share as its input share
unfoldable pub is_toy_half : Role → List ℕ → List ℕ → Bool
is_toy_half role public input = is_empty public && is_toy input

-- the prep share of a half, which is empty
unfoldable pub toy_share : Role → List ℕ → List ℕ → List ℕ → List ℕ → Option (List ℕ)
toy_share role key id public input = when (is_empty public && is_toy input) (Some [])

-- the prep message, which is empty
unfoldable pub toy_combine : List ℕ → List ℕ → Option (List ℕ)
toy_combine leader helper = when (is_empty leader && is_empty helper) (Some [])

-- the out share, where the message is the empty one
unfoldable pub toy_finish : List ℕ → List ℕ → Option (List ℕ)
toy_finish out message = when (is_empty message) (Some out)

-- the out share of a half, which is its input share
unfoldable pub toy_out : Role → List ℕ → List ℕ → List ℕ → List ℕ → List ℕ → Option (List ℕ)
toy_out role key id public input message = when (is_empty public && is_toy input) (toy_finish input message)

-- the measurement as a vector
unfoldable pub toy_encoding : List ℕ → Option (List ℕ)
toy_encoding ms = toy_value ms >>= λ m. Some (m ∷ [])

-- what the toy function computes; every report is fair
abbrev pub toy_functions : Functions
toy_functions = record {
  space = toy_space;
  shard = toy_shard;
  encoding = toy_encoding;
  is_half = is_toy_half;
  share = toy_share;
  is_share = is_empty;
  combine = toy_combine;
  out = toy_out;
  is_fair = λ key id. true;
  answer = λ v. Sum (get_or v 0 0);
}
