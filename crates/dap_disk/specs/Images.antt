-- What a stop may leave of a file: between two syncs the length may be any between the least and the greatest since the last sync; each byte in a written range, and each at or past that least length, may be anything; other bytes stay.
use Rattle.std.specs.Prelude.{◌≡◌, ◌⊎◌, ℕ, ◌+◌, ◌≤◌, ◌<◌, min, max, nat_le, Bool, true, ◌&&◌, List, [], ◌∷◌, length, slice_index}

-- a change since the last sync: bytes were written from a place on, or the file was cut to a length
pub data Change : Type 0 where
  Written : ℕ → List ℕ → Change
  CutTo : ℕ → Change

-- the least length since a sync at length n: only a cut makes it less
abbrev pub least : ℕ → List Change → ℕ
least n [] = n
least n (Written at bytes ∷ later) = least n later
least n (CutTo len ∷ later) = least (min n len) later

-- the greatest length since a sync at length n: only a write makes it more
abbrev pub greatest : ℕ → List Change → ℕ
greatest n [] = n
greatest n (Written at bytes ∷ later) = greatest (max n (at + length bytes)) later
greatest n (CutTo len ∷ later) = greatest n later

-- the place is in the range of a write
abbrev pub IsWritten : ℕ → List Change → Type 0
IsWritten i [] = ⊥
IsWritten i (Written at bytes ∷ later) = ((at ≤ i) × (i < at + length bytes)) ⊎ IsWritten i later
IsWritten i (CutTo len ∷ later) = IsWritten i later

-- what a stop may leave where these bytes were synced and these changes came after, the oldest first
pub record Allowed (synced : List ℕ) (changes : List Change) (c : List ℕ) : Type 0 where
  pub no_shorter : least (length synced) changes ≤ length c
  pub no_longer : length c ≤ greatest (length synced) changes
  pub stays : (i : ℕ) → i < least (length synced) changes → (IsWritten i changes → ⊥) → slice_index c i ≡ slice_index synced i

-- each change begins within the length that the file has by then, n at first
abbrev pub are_within : ℕ → List Change → Bool
are_within n [] = true
are_within n (Written at bytes ∷ later) = nat_le at n && are_within (max n (at + length bytes)) later
are_within n (CutTo len ∷ later) = nat_le len n && are_within len later
