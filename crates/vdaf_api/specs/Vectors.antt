-- Vectors of numbers below p, spelled with w bytes a number, the lowest first; out shares; and their sums as bytes.
use Rattle.std.specs.Prelude.{◌≡◌, ℕ, ◌*◌, ◌^◌, ◌<◌, ◌≤◌, List, [], ◌∷◌, ◌++◌, length, take, drop, replicate, Bool, true, false, nat_eq, nat_lt, Option, Some, None}
use Rattle.std.specs.List.{list_all}
use Rattle.std.proofs.Common.{zero, suc}
use Rattle.field_laws.specs.Bytes.{low_bytes, from_low}
use Rattle.field_laws.specs.Vector.{add_each}
use Rattle.vdaf_api.specs.declared.space.Space.{Space}
use Rattle.vdaf_api.specs.declared.space.TheConstants.{MOST_OUT}

-- o where the test holds
abbrev pub when : {A : Type 0} → Bool → Option A → Option A
when true o = o
when false o = None

-- a number below 256
abbrev pub is_byte : ℕ → Bool
is_byte b = nat_lt b 256

-- the numbers' bytes, one number after another
unfoldable pub spelled : ℕ → List ℕ → List ℕ
spelled w [] = []
spelled w (x ∷ xs) = low_bytes w x ++ spelled w xs

-- the number below p that these w bytes spell
unfoldable pub element_of : ℕ → ℕ → List ℕ → Option ℕ
element_of p w bs = when (nat_eq (length bs) w) (when (list_all is_byte bs) (when (nat_lt (from_low bs) p) (Some (from_low bs))))

-- a first number and further ones, where both are there
abbrev pub joined : Option ℕ → Option (List ℕ) → Option (List ℕ)
joined (Some x) (Some xs) = Some (x ∷ xs)
joined (Some x) None = None
joined None o = None

-- the n numbers below p that these bytes spell
unfoldable pub vector_of : ℕ → ℕ → ℕ → List ℕ → Option (List ℕ)
vector_of p w zero [] = Some []
vector_of p w zero (b ∷ bs) = None
vector_of p w (suc n) bs = joined (element_of p w (take w bs)) (vector_of p w n (drop w bs))

-- each entry is below p
unfoldable pub Below : ℕ → List ℕ → Type 0
Below p [] = Unit {0}
Below p (x ∷ xs) = (x < p) × Below p xs

-- the bytes spell n numbers below p
abbrev pub IsVector : ℕ → ℕ → ℕ → List ℕ → Type 0
IsVector p w n bs = (xs : List ℕ) × (vector_of p w n bs ≡ Some xs)

-- the numbers that the bytes of an out share spell; none for other bytes
abbrev pub vector : Space → List ℕ → Option (List ℕ)
vector s bs = vector_of s.modulus s.width s.size bs

-- the bytes are an out share
abbrev pub IsOut : Space → List ℕ → Type 0
IsOut s bs = (xs : List ℕ) × (vector s bs ≡ Some xs)

-- the out share of noughts
abbrev pub zero_share : Space → List ℕ
zero_share s = spelled s.width (replicate s.size 0)

-- the numbers that are there, or none
abbrev pub numbers_in : Option (List ℕ) → List ℕ
numbers_in (Some xs) = xs
numbers_in None = []

-- the numbers that an out share holds; the empty list for other bytes
abbrev pub numbers : Space → List ℕ → List ℕ
numbers s bs = numbers_in (vector s bs)

-- the bytes of the sum of two vectors, where both are there
abbrev pub sum_in : Space → Option (List ℕ) → Option (List ℕ) → List ℕ
sum_in s (Some xs) (Some ys) = spelled s.width (add_each s.modulus xs ys)
sum_in s (Some xs) None = []
sum_in s None o = []

-- the sum of two out shares; the empty list, which is no out share, where one of them isn't
unfoldable pub plus : Space → List ℕ → List ℕ → List ℕ
plus s a b = sum_in s (vector s a) (vector s b)

-- what a space has to be
pub record SpaceLaws (s : Space) : Type 0 where
  pub some_number : 1 ≤ s.modulus
  pub some_byte : 1 ≤ s.width
  pub few_bytes : s.width ≤ 16
  pub room : s.modulus ≤ 256 ^ s.width
  pub some_entry : 1 ≤ s.size
  pub few_entries : s.size * s.width ≤ MOST_OUT
