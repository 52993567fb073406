-- What the two disks of a pair are to one another while one is made the live one.
use Rattle.std.specs.Prelude.{◌≡◌, ◌⊎◌, ℕ, ◌+◌, ◌<◌, ◌^◌, false, List, [], drop, Option}
use Rattle.dap_disk.specs.Disk.{Tells, of_told}
use Rattle.report_journal.specs.Journal.{Stands}
use Rattle.report_journal.specs.Reading.{StandsIn}
use Rattle.journal_checkpoint.specs.Heads.{begins_block, headed}
use Rattle.journal_checkpoint.specs.Packing.{Packs, KeepsGeneration}

-- A journal from a place on has more than so many blocks, and the other disk gets it, packed behind the next generation.
pub record PacksOnto (over generation start : ℕ) (live old new : Option (List ℕ)) : Type 0 where
  pub records : List (List ℕ)
  pub count : ℕ
  pub parts : List (List (List ℕ))
  pub stands : Tells live (λ c. StandsIn records count (drop start c))
  pub more : over < count
  pub packs : Packs records parts
  pub room : generation + 1 < 2 ^ 64
  pub done : new ≡ of_told (λ _. headed (generation + 1) parts) old

-- these are the blocks of a journal from a place on, packed, and a generation comes after this one
pub record PacksLive (generation start : ℕ) (live : Option (List ℕ)) (parts : List (List (List ℕ))) : Type 0 where
  pub records : List (List ℕ)
  pub stands : Tells live (λ c. Stands records (drop start c))
  pub packs : Packs records parts
  pub room : generation + 1 < 2 ^ 64

-- what a stop may leave of the other disk: a file without a head, or with the generation of before, or the packed journal, whole
abbrev pub KeepsOrPacks : ℕ → ℕ → Option (List ℕ) → (List ℕ → Type 0) → List ℕ → Type 0
KeepsOrPacks generation start live files file = KeepsGeneration files file ⊎ ((parts : List (List (List ℕ))) × PacksLive generation start live parts × (file ≡ headed (generation + 1) parts))

-- the same of the second disk while it gets the first head, which it does only where the first begins with no block
abbrev pub KeepsOrHeads : Option (List ℕ) → (List ℕ → Type 0) → List ℕ → Type 0
KeepsOrHeads first files file = KeepsGeneration files file ⊎ (Tells first (λ c. begins_block c ≡ false) × (file ≡ headed 1 []))
