-- What a stop may leave, one change at a time.
use Rattle.std.specs.Prelude.{◌≡◌, ℕ, true, List, [], ◌∷◌, length}
use Rattle.dap_disk.specs.Disk.{Torn, Shortened}
use Rattle.dap_disk.specs.Images.{Change, Written, CutTo, Allowed, are_within}

-- what a stop may make of an image by a change
abbrev pub Takes : Change → List ℕ → List ℕ → Type 0
Takes (Written at bytes) old new = Torn at (length bytes) old new
Takes (CutTo len) old new = Shortened len old new

-- from an image through changes, the oldest first
abbrev pub Reaches : List Change → List ℕ → List ℕ → Type 0
Reaches [] synced c = c ≡ synced
Reaches (change ∷ later) synced c = (d : List ℕ) × Takes change synced d × Reaches later d c

-- The steps of the trait `Disk` reach what the disk model allows, and nothing else.
pub record StepsAreImages : Type 0 where
  pub no_others : (changes : List Change) (synced c : List ℕ) → Reaches changes synced c → Allowed synced changes c
  pub each : (changes : List Change) (synced c : List ℕ) → are_within (length synced) changes ≡ true → Allowed synced changes c → Reaches changes synced c
