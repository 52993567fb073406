-- A journal packed into few blocks.
use Rattle.std.specs.Prelude.{◌≡◌, ◌⊎◌, ℕ, ◌+◌, ◌<◌, ◌≤◌, ◌^◌, List, [], ◌∷◌, ◌++◌, length, take}
use Rattle.dap_bytes.specs.declared.limits.TheConstants.{LONGEST_BLOCK}
use Rattle.report_journal.specs.Journal.{IsBlock, body}
use Rattle.report_journal.specs.Reading.{StandsIn}
use Rattle.journal_checkpoint.specs.Heads.{generation_of, headed}

-- the block has no room for the first of these records
abbrev pub IsFull : List (List ℕ) → List (List ℕ) → Type 0
IsFull part rest = 0 < length rest → LONGEST_BLOCK < length (body (part ++ take 1 rest))

-- these are blocks of the records, each with the most following records that fit
abbrev pub Packs : List (List ℕ) → List (List (List ℕ)) → Type 0
Packs records [] = records ≡ []
Packs records (part ∷ parts) = (rest : List (List ℕ)) × (records ≡ part ++ rest) × IsBlock part × IsFull part rest × Packs rest parts

-- a journal of so many blocks at most
abbrev pub HasFew : ℕ → List ℕ → Type 0
HasFew over journal = (records : List (List ℕ)) × (count : ℕ) × StandsIn records count journal × (count ≤ over)

-- a journal of more blocks
abbrev pub HasMore : ℕ → List ℕ → Type 0
HasMore over journal = (records : List (List ℕ)) × (count : ℕ) × StandsIn records count journal × (over < count)

-- A journal of more than so many blocks, packed behind the generation after this one.
pub record IsPacked (over generation : ℕ) (journal file : List ℕ) : Type 0 where
  pub records : List (List ℕ)
  pub count : ℕ
  pub parts : List (List (List ℕ))
  pub stands : StandsIn records count journal
  pub more : over < count
  pub packs : Packs records parts
  pub room : generation + 1 < 2 ^ 64
  pub file_is : file ≡ headed (generation + 1) parts

-- the file has no head, or the generation of one of these
abbrev pub KeepsGeneration : (List ℕ → Type 0) → List ℕ → Type 0
KeepsGeneration files file = (generation_of file ≡ 0) ⊎ ((f : List ℕ) × files f × (generation_of file ≡ generation_of f))

-- the same, or it is this file
abbrev pub KeepsGenerationOr : List ℕ → (List ℕ → Type 0) → List ℕ → Type 0
KeepsGenerationOr whole files file = KeepsGeneration files file ⊎ (file ≡ whole)
