-- The ranges of kinds.
use Rattle.std.specs.Prelude.{ℕ, ◌*◌, ◌≤◌, List, [], ◌∷◌, length, Bool, true, ◌&&◌, nat_le, nat_lt}
use Rattle.std.specs.List.Sorted.{IsStrictlyIncreasing}
use Rattle.vdaf_api.specs.declared.kind.Kind.{Kind}
use Rattle.vdaf_api.specs.declared.kind.TheConstants.{MOST_BITS, MOST_BOUNDS, MOST_INPUT, MOST_NUMBER_BITS, MOST_NUMBERS}
use Rattle.vdaf_api.specs.declared.kind.Kind.TheVariants.{Count, Sum, Histogram, Vector}

-- the numbers ascend from above the first one on
abbrev pub ascends_from : ℕ → List ℕ → Bool
ascends_from below [] = true
ascends_from below (x ∷ xs) = nat_lt below x && ascends_from x xs

-- each number is below the next
abbrev pub ascends : List ℕ → Bool
ascends [] = true
ascends (x ∷ xs) = ascends_from x xs

-- whether a vector may have len numbers of so many bits
abbrev pub are_sizes : ℕ → ℕ → Bool
are_sizes len bits = nat_le 1 len && nat_le len MOST_NUMBERS && (nat_le 1 bits && nat_le bits MOST_NUMBER_BITS) && nat_le (len * bits) MOST_INPUT

-- whether a kind is within its ranges
abbrev pub is_kind : Kind → Bool
is_kind Count = true
is_kind (Sum bits) = nat_le 1 bits && nat_le bits MOST_BITS
is_kind (Histogram bounds) = nat_le 1 (length bounds) && nat_le (length bounds) MOST_BOUNDS && ascends bounds
is_kind (Vector len bits) = are_sizes len bits

-- the bounds of a histogram
pub record AreBounds (bounds : List ℕ) : Type 0 where
  pub some : 1 ≤ length bounds
  pub few : length bounds ≤ MOST_BOUNDS
  pub ascending : IsStrictlyIncreasing bounds

-- how many numbers of how many bits a vector has
pub record AreSizes (len bits : ℕ) : Type 0 where
  pub some_numbers : 1 ≤ len
  pub few_numbers : len ≤ MOST_NUMBERS
  pub some_bits : 1 ≤ bits
  pub few_bits : bits ≤ MOST_NUMBER_BITS
  pub short_input : len * bits ≤ MOST_INPUT

-- the kind is within its ranges
abbrev pub IsKind : Kind → Type 0
IsKind Count = Unit {0}
IsKind (Sum bits) = (1 ≤ bits) × (bits ≤ MOST_BITS)
IsKind (Histogram bounds) = AreBounds bounds
IsKind (Vector len bits) = AreSizes len bits
