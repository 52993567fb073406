-- What the bytes of a journal stand for.
use Rattle.std.specs.Prelude.{◌≡◌, ◌≢◌, ◌⊎◌, ℕ, ◌+◌, ◌≤◌, ◌<◌, List, [], ◌∷◌, ◌++◌, length, take, drop, slice_index}
use Rattle.std.specs.List.{flat_map}
use Rattle.std.specs.Int.{to_be_bytes, w32}
use Rattle.dap_bytes.specs.declared.limits.TheConstants.{LONGEST_BLOCK}
use Rattle.dap_disk.specs.Disk.{written}

-- a record behind its length
abbrev pub framed : List ℕ → List ℕ
framed record_bytes = to_be_bytes w32 (length record_bytes) ++ record_bytes

-- records behind their lengths
abbrev pub body : List (List ℕ) → List ℕ
body records = flat_map framed records

-- an open gate, the length of what follows, the records
abbrev pub block : List (List ℕ) → List ℕ
block records = 1 ∷ (to_be_bytes w32 (length (body records)) ++ body records)

-- blocks of these records, one after another
abbrev pub blocks : List (List (List ℕ)) → List ℕ
blocks parts = flat_map block parts

-- the records of these blocks
abbrev pub all_records : List (List (List ℕ)) → List (List ℕ)
all_records parts = flat_map (λ records. records) parts

-- records that one block may have: 16 MiB with their lengths at most
pub record IsBlock (records : List (List ℕ)) : Type 0 where
  pub some : 0 < length records
  pub size : length (body records) ≤ LONGEST_BLOCK

-- each record fits into a block by itself
abbrev pub EachFits : List (List ℕ) → Type 0
EachFits [] = Unit {0}
EachFits (record_bytes ∷ records) = (length (framed record_bytes) ≤ LONGEST_BLOCK) × EachFits records

-- each is such records
abbrev pub AreBlocks : List (List (List ℕ)) → Type 0
AreBlocks [] = Unit {0}
AreBlocks (part ∷ parts) = IsBlock part × AreBlocks parts

-- Blocks of these records stand up to the place q, where a gate is shut.
pub record Closed (records : List (List ℕ)) (q : ℕ) (file : List ℕ) : Type 0 where
  pub parts : List (List (List ℕ))
  pub are : AreBlocks parts
  pub hold : all_records parts ≡ records
  pub place : length (blocks parts) ≡ q
  pub front : take q file ≡ blocks parts
  pub within : q < length file
  pub shut : slice_index file q ≢ 1

-- The file stands for these records. One byte, whatever it is, stands for none, as no byte does.
abbrev pub Stands : List (List ℕ) → List ℕ → Type 0
Stands records file = ((q : ℕ) × Closed records q file) ⊎ ((records ≡ []) × (length file ≤ 1))

-- The file is no journal: at q, behind blocks, a gate is open, and no block with a byte behind it stands there.
pub record NoJournal (q : ℕ) (file : List ℕ) : Type 0 where
  pub parts : List (List (List ℕ))
  pub are : AreBlocks parts
  pub place : length (blocks parts) ≡ q
  pub front : take q file ≡ blocks parts
  pub within : q < length file
  pub gate : slice_index file q ≡ 1
  pub longer : 1 < length file
  pub none : (records : List (List ℕ)) (rest : List ℕ) → IsBlock records → drop q file ≡ block records ++ rest → rest ≡ []

-- what an append writes behind the gate: the block without it, and the next gate, shut
abbrev pub behind : List (List ℕ) → List ℕ
behind records = to_be_bytes w32 (length (body records)) ++ (body records ++ 0 ∷ [])

-- the gate at q is shut, and behind it stand this block and a shut gate
pub record Staged (records coming : List (List ℕ)) (q : ℕ) (file : List ℕ) : Type 0 where
  pub closed : Closed records q file
  pub there : take (length (behind coming)) (drop (q + 1) file) ≡ behind coming

-- a file with this block at the place of its gate, and a shut gate behind it
abbrev pub with_block : ℕ → List (List ℕ) → List ℕ → List ℕ
with_block q records file = written q (block records ++ 0 ∷ []) file

-- the gate at q is shut, or it is open and these records' block stands whole behind it
abbrev pub Either : List (List ℕ) → List (List ℕ) → ℕ → List ℕ → Type 0
Either records coming q file =
    Closed records q file ⊎ ((slice_index file q ≡ 1) × IsBlock coming × Closed (records ++ coming) (q + length (behind coming)) file)
