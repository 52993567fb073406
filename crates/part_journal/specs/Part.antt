-- The journal of a part as its callers see it, and what its type keeps.
use Rattle.std.specs.Prelude.{◌≡◌, ◌≢◌, ◌⊎◌, ◌↔◌, ◌≤◌, ◌<◌, ℕ, ◌+◌, List, [], ◌++◌, map, length, Bool, true, false, None, IsTrue}
use Rattle.dap_messages.specs.Grammar.{Grammar}
use Rattle.report_journal.specs.Journal.{Stands}
use Rattle.dap_bytes.specs.declared.limits.TheConstants.{LONGEST_BLOCK}
use Rattle.report_journal.specs.Log.{LogView, Leaves}
use Rattle.part_journal.specs.Came.{IsIdle}
use Rattle.part_journal.specs.Pages.{Pages, begun, done, refused, Restarted, UnderWay}
use Rattle.part_journal.specs.declared.fault.TheConstants.{MOST_STOPS}

-- A part's journal: its disk, its pages, the Open that it appends behind a restart, how many records it had at the opening, whether it takes blocks, whether its log takes an Open, whether a restart has failed since the opening, and how many stops may still come, the last of which is answered.
pub record PartView (D R : Type 0) : Type 0 where
  pub disk : D
  pub pages : Pages R
  pub opener : R
  pub opening : ℕ
  pub up : Bool
  pub woken : Bool
  pub dead : Bool
  pub left : ℕ

-- nothing is in hand, an Open stands behind the last restart, it is known what became of the last block, and a stop may come
pub record IsAtRest {R : Type 0} (pages : Pages R) (left : ℕ) : Type 0 where
  pub block : pages.block ≡ []
  pub opened : pages.opened ≡ true
  pub fate : pages.fate ≢ None
  pub borne : 0 < left

module _ {D R : Type 0} where
  -- what a stop may leave stands for the records, without the block in hand or with it
  abbrev pub Holds : (D → List ℕ → Type 0) → (R → List ℕ) → PartView D R → Type 0
  Holds may_leave spell v = (c : List ℕ) → may_leave v.disk c
      → Stands (map spell v.pages.records) c ⊎ Stands (map spell (v.pages.records ++ v.pages.block)) c

  -- the Open that is appended and the number of records at the opening stay
  abbrev pub SameOpening : PartView D R → PartView D R → Type 0
  SameOpening v w = (w.opener ≡ v.opener) × (w.opening ≡ v.opening)

  -- a restart has failed since the opening where one had before the call, or where the call answers `Stopped` with stops left
  abbrev pub DeadWhere : Type 0 → PartView D R → PartView D R → Type 0
  DeadWhere stopped v w = IsTrue w.dead ↔ (IsTrue v.dead ⊎ (stopped × (0 < w.left)))

  -- an append of these records without a stop
  abbrev pub IsDone : List R → PartView D R → PartView D R → Type 0
  IsDone xs v w = IsTrue w.up × (w.left ≡ v.left) × (w.pages ≡ done (begun xs v.pages))

  -- an append that was stopped and is back, with these records or without them
  abbrev pub ComesBack : Bool → List R → PartView D R → PartView D R → Type 0
  ComesBack kept xs v w = IsTrue w.up × (w.left < v.left) × Restarted v.opener kept (begun xs v.pages) w.pages

  -- an append that was refused before a stop
  abbrev pub IsRefused : PartView D R → PartView D R → Type 0
  IsRefused v w = IsTrue w.up × (w.left ≡ v.left) × (w.pages ≡ refused v.pages)

  -- a call that was refused on the way back, from the pages with their block in hand
  abbrev pub StaysDown : Pages R → PartView D R → PartView D R → Type 0
  StaysDown p v w = (w.up ≡ false) × UnderWay v.opener p w.pages

  -- the log holds the records and the block in hand, as they are spelled
  pub record IsOf (spell : R → List ℕ) (pages : Pages R) (log : LogView D) : Type 0 where
    pub records : log.records ≡ map spell pages.records
    pub block : log.coming ≡ map spell pages.block

  -- What the type keeps: the log is that of the pages, its images stand for these, the Open can be spelled in a block, and where the journal takes blocks it is at rest.
  pub record IsPart (g : Grammar R) (may_leave : D → List ℕ → Type 0) (log : LogView D) (pages : Pages R) (opener : R) (opening left : ℕ) (up : Bool) : Type 0 where
    pub holds : IsOf g.spell pages log
    pub images : Leaves may_leave log
    pub allowed : IsTrue (g.allowed opener)
    pub room : 4 + length (g.spell opener) ≤ LONGEST_BLOCK
    pub budget : left ≤ MOST_STOPS
    pub within : opening ≤ length pages.records
    pub idle : IsIdle opener pages
    pub rest : IsTrue up → IsTrue log.up × IsAtRest pages left
