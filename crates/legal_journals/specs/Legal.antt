-- Legal journals.
use Rattle.std.specs.Prelude.{◌≡◌, ℕ, ◌≤◌, IsTrue, List, [], ◌∷◌, ◌++◌, length, reverse, Option, Some, None}
use Rattle.dap_bytes.specs.declared.node.Node.{Node}
use Rattle.dap_bytes.specs.declared.node.Node.TheVariants.{Leader, Helper}
use Rattle.dap_bytes.specs.declared.part.Part.{Part}
use Rattle.dap_bytes.specs.declared.part.Part.TheVariants.{Front, Lane}
use Rattle.lane_records.specs.declared.record.Record.{Record}
use Rattle.lane_records.specs.Records.{record_}
use Rattle.legal_journals.specs.History.{lanes_in, opens}
use Rattle.legal_journals.specs.LegalLanes.{LeaderLaneMay, HelperLaneMay}
use Rattle.legal_journals.specs.LegalFronts.{LeaderFrontMay, HelperFrontMay}

-- the record may follow these, the newest first, in the journal of the node's part, where an Open stands
abbrev pub PartMay : Node → Part → Record → List Record → Type 0
PartMay Leader (Lane lane) x old = LeaderLaneMay lane x old
PartMay Leader Front x old = LeaderFrontMay x old
PartMay Helper (Lane lane) x old = HelperLaneMay lane x old
PartMay Helper Front x old = HelperFrontMay x old

-- the record is in the grammar, it is an Open or one stands before it, and it may follow these in the part's journal
abbrev pub May : Node → Part → Record → List Record → Type 0
May node part x old = IsTrue (record_.allowed x) × (lanes_in x ≡ None → 1 ≤ opens old) × PartMay node part x old

-- with the newest record first: each may follow those before it
abbrev pub IsLegal : Node → Part → List Record → Type 0
IsLegal node part [] = Unit {0}
IsLegal node part (x ∷ old) = May node part x old × IsLegal node part old

-- with the oldest record first: each may follow those before it
abbrev pub IsLegalJournal : Node → Part → List Record → Type 0
IsLegalJournal node part journal = IsLegal node part (reverse journal)

-- The place, from 0, of the first record of a journal that may not follow those before it. None where the journal is legal.
abbrev pub IsFirstRefused : Node → Part → List Record → Option ℕ → Type 0
IsFirstRefused node part journal None = IsLegalJournal node part journal
IsFirstRefused node part journal (Some k) =
    (before : List Record) × (x : Record) × (after : List Record)
    × (journal ≡ before ++ x ∷ after) × (length before ≡ k)
    × IsLegalJournal node part before × ¬ (May node part x (reverse before))
