-- An input that is read from its front.
use Rattle.std.specs.Prelude.{ℕ, ◌+◌, Bool, List, length, take, drop, nat_le, if◌then◌else◌, Option, Some, None, option_map}
use Rattle.std.specs.Int.{Width, byte_len, from_be_bytes}

-- an input, and how many of its bytes are behind
pub record Reading : Type 0 where
  pub input : List ℕ
  pub place : ℕ

-- the bytes that are left
abbrev pub rest_of : Reading → List ℕ
rest_of r = drop r.place r.input

-- whether so many are left
abbrev pub has_bytes : ℕ → Reading → Bool
has_bytes n r = nat_le n (length (rest_of r))

-- the next n bytes of the input, where so many are left
abbrev pub next_bytes : ℕ → Reading → Option (List ℕ)
next_bytes n r = if has_bytes n r then Some (take n (rest_of r)) else None

-- the big-endian number in the next bytes, where they are left
abbrev pub next_number : Width → Reading → Option ℕ
next_number w r = option_map (from_be_bytes w) (next_bytes (byte_len w) r)

-- n places further on, or the same where fewer bytes are left
abbrev pub past : ℕ → Reading → Reading
past n r = if has_bytes n r then record { input = r.input; place = r.place + n } else r
