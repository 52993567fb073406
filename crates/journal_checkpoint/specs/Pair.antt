-- What a stop may leave of a pair, and what its calls keep.
use Rattle.std.specs.Prelude.{◌≡◌, ◌⊎◌, ℕ, ◌+◌, ◌<◌, max, Bool, IsTrue, if◌then◌else◌, List, drop, Option, Some}
use Rattle.dap_bytes.specs.Causes.{CountsEither}
use Rattle.dap_disk.specs.Disk.{LeavesOnly, Only, Tells, of_told, Move, Looked, Changed, Synced, Refused, Restarted}
use Rattle.dap_disk.specs.Images.{Written, CutTo}
use Rattle.report_journal.specs.Journal.{Stands}
use Rattle.journal_checkpoint.specs.Heads.{generation_of, pair_journal, in_order}

-- the two disks in the order given
abbrev pub disks_of : {D : Type 0} → Bool → D → D → D × D
disks_of second live other = if second then (other, live) else (live, other)

-- what may be read of a pair after a stop: the live disk's bytes from its journal on, and, where it has a head, what an opening reads of any two images
abbrev pub Reads : Bool → ℕ → (List ℕ → Type 0) → (List ℕ → Type 0) → List ℕ → Type 0
Reads second start live other c = (x : List ℕ) × live x × ((c ≡ drop start x) ⊎ ((0 < start) × (y : List ℕ) × other y × (c ≡ in_order second pair_journal x y)))

-- a call from a place on, as the disk sees it
abbrev pub moved_on : ℕ → Move → Move
moved_on start (Changed (Written at bytes)) = Changed (Written (at + start) bytes)
moved_on start (Changed (CutTo len)) = Changed (CutTo (len + start))
moved_on start Looked = Looked
moved_on start Synced = Synced
moved_on start Refused = Refused
moved_on start Restarted = Restarted

-- a call on a pair moves the live disk behind its head, or is refused before it comes there
abbrev pub MovesLive : {D : Type 0} → (Move → D → D → Type 0) → ℕ → Move → D → D → Type 0
MovesLive moves start move old new = moves (moved_on start move) old new ⊎ ((move ≡ Refused) × (new ≡ old))

-- P of what both disks tell, where both do
abbrev pub BothTell : {D : Type 0} → (D → Option (List ℕ)) → D × D → (List ℕ → List ℕ → Type 0) → Type 0
BothTell holds disks P = (a b : List ℕ) → holds disks.0 ≡ Some a → holds disks.1 ≡ Some b → P a b

-- A pair as an opening makes it: it is up, what is read of it is the journal of both disks, and nothing waits for a sync.
pub record IsOpened {D : Type 0} (holds : D → Option (List ℕ)) (is_up : D → Bool) (may_leave : D → List ℕ → Type 0) (second : Bool) (live other : D) (generation start : ℕ) : Type 0 where
  pub up : IsTrue (is_up live)
  pub journal : BothTell holds (disks_of second live other) (λ a b. of_told (drop start) (holds live) ≡ Some (pair_journal a b))
  pub greatest : BothTell holds (disks_of second live other) (λ a b. generation ≡ max (generation_of a) (generation_of b))
  pub head : Tells (holds live) (λ c. generation_of c ≡ generation)
  pub synced : Only (holds live) (may_leave live)

-- Nothing was written: both disks hold what they held, and at every moment a stop leaves of each what it might have left before.
pub record Unwritten {D : Type 0} (holds : D → Option (List ℕ)) (moment : D → ℕ) (left_since : D → ℕ → List ℕ → Type 0) (may_leave : D → List ℕ → Type 0) (old new : D × D) : Type 0 where
  pub same : (holds new.0 ≡ holds old.0) × (holds new.1 ≡ holds old.1)
  pub first : LeavesOnly moment left_since old.0 new.0 (may_leave old.0)
  pub second : LeavesOnly moment left_since old.1 new.1 (may_leave old.1)

-- what an opening reads of the two files is this journal, or one with the same records
abbrev pub SameJournal : List ℕ → List ℕ → List ℕ → Type 0
SameJournal journal x y = (pair_journal x y ≡ journal) ⊎ ((records : List (List ℕ)) × Stands records journal × Stands records (pair_journal x y))

-- At every moment of a call, each combination of what a stop might leave of the one disk and of the other reads as the journal of before, or as one with the same records. The first two are for a run that began earlier.
pub record KeepsRecords {D : Type 0} (holds : D → Option (List ℕ)) (moment : D → ℕ) (left_since : D → ℕ → List ℕ → Type 0) (old new : D × D) : Type 0 where
  pub first : LeavesOnly moment left_since old.0 new.0 (λ x. BothTell holds old (λ a b. SameJournal (pair_journal a b) x b))
  pub second : LeavesOnly moment left_since old.1 new.1 (λ y. BothTell holds old (λ a b. SameJournal (pair_journal a b) a y))
  pub each : (x y : List ℕ) → left_since new.0 (moment old.0) x → left_since new.1 (moment old.1) y → BothTell holds old (λ a b. SameJournal (pair_journal a b) x y)

-- how a call moves the counts of both disks: `stopped` says that it answers a stop of one of them, and none is restarted
pub record CountsPair {D : Type 0} (downs deads : D → ℕ) (stopped : Type 0) (old new : D × D) : Type 0 where
  pub stops : CountsEither stopped (downs old.0) (downs new.0) (downs old.1) (downs new.1)
  pub no_death : (deads new.0 ≡ deads old.0) × (deads new.1 ≡ deads old.1)
