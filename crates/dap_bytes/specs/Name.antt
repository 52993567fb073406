-- Names of tasks.
use Rattle.std.specs.Prelude.{◌≡◌, ℕ, ◌-◌, ◌≤◌, ◌++◌, List, length, take, replicate, Bool, true, ◌&&◌, ◌||◌, nat_le, nat_eq, if◌then◌else◌, Option, Some, None}
use Rattle.std.specs.List.{list_all}

-- `a` to `z`, `0` to `9`, `_`, `-`
abbrev pub is_name_char : ℕ → Bool
is_name_char c = (nat_le 97 c && nat_le c 122) || (nat_le 48 c && nat_le c 57) || nat_eq c 95 || nat_eq c 45

-- 1 to 32 such characters
abbrev pub is_name : List ℕ → Bool
is_name text = nat_le 1 (length text) && nat_le (length text) 32 && list_all is_name_char text

-- the text is a name
abbrev pub IsName : List ℕ → Type 0
IsName text = is_name text ≡ true

-- the name that a text is, if it is one
abbrev pub name_of : List ℕ → Option (List ℕ)
name_of text = if is_name text then Some text else None

-- cells of which the first are used for a name, and the rest are 0
pub record IsFilled (cells : List ℕ) (used : ℕ) : Type 0 where
  pub within : used ≤ length cells
  pub padded : cells ≡ take used cells ++ replicate (32 - used) 0
  pub spelled : IsName (take used cells)
