-- What a journal over a disk keeps.
use Rattle.std.specs.Prelude.{◌≡◌, ◌⊎◌, ◌≤◌, ◌<◌, ◌^◌, ℕ, ◌+◌, Bool, List, ◌++◌, length, map, take, drop, Option, Some, false, refl, IsTrue, Vec}
use Rattle.std.specs.Coded.{Coded, code_by, coded×, coded_ℕ, coded_bool, coded_list}
use Rattle.std.specs.declared.alloc.Global.{Global}
use Rattle.dap_disk.specs.Disk.{Tells}
use Rattle.report_journal.specs.Journal.{Closed, Either, Staged, Stands, behind, with_block}

-- the bytes of each
abbrev pub contents : List (Vec ℕ Global) → List (List ℕ)
contents records = map (λ r. r.items) records

-- Of the kept records the first `durable` stand up to a gate, and the others are in hand.
module _ (kept : List (Vec ℕ Global)) (durable gate : ℕ) where
  -- the gate is shut
  abbrev pub IsShut : List ℕ → Type 0
  IsShut file = Closed (contents (take durable kept)) gate file

  -- it is shut, and the block of the others stands behind it
  abbrev pub IsStaged : List ℕ → Type 0
  IsStaged file = Staged (contents (take durable kept)) (contents (drop durable kept)) gate file

  -- it is shut, or open with the block of the others behind it
  abbrev pub IsEither : List ℕ → Type 0
  IsEither file = Either (contents (take durable kept)) (contents (drop durable kept)) gate file

  -- the others stand too, up to the next gate, which is shut
  abbrev pub IsAppended : List ℕ → Type 0
  IsAppended file = Closed (contents (take durable kept) ++ contents (drop durable kept)) (gate + length (behind (contents (drop durable kept)))) file

-- each image has P
abbrev pub EachImage : (List ℕ → Type 0) → (List ℕ → Type 0) → Type 0
EachImage images P = (c : List ℕ) → images c → P c

-- A journal as callers see it: its disk, its records, the block in hand whose fate is open while it is down.
pub record LogView (D : Type 0) : Type 0 where
  pub disk : D
  pub records : List (List ℕ)
  pub coming : List (List ℕ)
  pub up : Bool

module _ {D : Type 0} where
  -- what a stop may leave stands for the records, without the block in hand or with it
  abbrev pub Leaves : (D → List ℕ → Type 0) → LogView D → Type 0
  Leaves may_leave log = (c : List ℕ) → may_leave log.disk c → Stands log.records c ⊎ Stands (log.records ++ log.coming) c

  -- it came back: the block in hand counts or not
  abbrev pub ComesBack : LogView D → LogView D → Type 0
  ComesBack old new = IsTrue new.up × ((new.records ≡ old.records) ⊎ (new.records ≡ old.records ++ old.coming))

  -- it is down with these records in hand
  abbrev pub IsDownWith : List (List ℕ) → LogView D → LogView D → Type 0
  IsDownWith coming old new = (new.up ≡ false) × (new.records ≡ old.records) × (new.coming ≡ coming)

  -- it is up with the records of before, in every image too
  abbrev pub StaysUp : (D → List ℕ → Type 0) → LogView D → LogView D → Type 0
  StaysUp may_leave old new = IsTrue new.up × (new.records ≡ old.records) × EachImage (may_leave new.disk) (Stands old.records)

  -- where the disk tells it, the block stands in the place of the old file's last gate
  abbrev pub AddsBlock : (D → Option (List ℕ)) → List (List ℕ) → LogView D → LogView D → Type 0
  AddsBlock holds block old new = Tells (holds old.disk) (λ c. (q : ℕ) × Closed old.records q c × (holds new.disk ≡ Some (with_block q block c)))

  -- a view is stored as the tuple of its fields
  abbrev pub log_code : Coded D → Coded (LogView D)
  log_code disk =
      code_by (D × (List (List ℕ) × (List (List ℕ) × Bool)))
      (coded× disk (coded× (coded_list (coded_list coded_ℕ)) (coded× (coded_list (coded_list coded_ℕ)) coded_bool)))
      (λ s. (s.disk, (s.records, (s.coming, s.up))))
      (λ p. record { disk = p.0; records = p.1.0; coming = p.1.1.0; up = p.1.1.1 })
      (λ _. refl)

  -- The disk is up, and the gate behind the records is shut in all that is held or may be left.
  pub record IsStanding (holds : D → Option (List ℕ)) (is_up : D → Bool) (may_leave : D → List ℕ → Type 0) (disk : D) (records : List (List ℕ)) (gate : ℕ) : Type 0 where
    pub usable : IsTrue (is_up disk)
    pub held : Tells (holds disk) (Closed records gate)
    pub images : (c : List ℕ) → may_leave disk c → Closed records gate c

  -- Of what is kept the first `durable` are the records, and the others are in hand, for a journal that is down.
  pub record IsLog (holds : D → Option (List ℕ)) (is_up : D → Bool) (may_leave : D → List ℕ → Type 0) (disk : D) (kept : List (Vec ℕ Global)) (durable gate size : ℕ) (up : Bool) : Type 0 where
    pub within : durable ≤ length kept
    pub images : (c : List ℕ) → may_leave disk c → Either (contents (take durable kept)) (contents (drop durable kept)) gate c
    pub sized : durable < length kept → size ≡ length (behind (contents (drop durable kept)))
    pub fits : gate + size < 2 ^ 64
    pub all : IsTrue up → durable ≡ length kept
    pub standing : IsTrue up → IsStanding holds is_up may_leave disk (contents (take durable kept)) gate
