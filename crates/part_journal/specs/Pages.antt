-- What a part keeps beside its log, and what stops and restarts make of it.
use Rattle.std.specs.Prelude.{◌≡◌, ◌⊎◌, List, [], ◌∷◌, ◌++◌, Bool, true, false, Option, Some, None}

-- The records, the block in hand, whether an Open stands behind the last restart, and what became of the last block that an append began: it counts or not, or that is open.
pub record Pages (R : Type 0) : Type 0 where
  pub records : List R
  pub block : List R
  pub opened : Bool
  pub fate : Option Bool

-- what became of a block is decided once
abbrev pub decided : Bool → Option Bool → Option Bool
decided kept None = Some kept
decided kept (Some was) = Some was

module _ {R : Type 0} where
  -- the block in hand counts
  abbrev pub landed : Pages R → Pages R
  landed p = record p { records = p.records ++ p.block; block = [] }

  -- the block in hand is lost
  abbrev pub lost : Pages R → Pages R
  lost p = record p { block = [] }

  -- after a restart, which found the block in hand or not
  abbrev pub settled : Bool → Pages R → Pages R
  settled true p = record (landed p) { opened = false; fate = decided true p.fate }
  settled false p = record (lost p) { opened = false; fate = decided false p.fate }

  -- an append has begun
  abbrev pub begun : List R → Pages R → Pages R
  begun xs p = record p { block = xs; fate = None }

  -- an append was refused before the disk stopped
  abbrev pub refused : Pages R → Pages R
  refused p = record p { fate = Some false }

  -- an append has ended
  abbrev pub done : Pages R → Pages R
  done p = record (landed p) { fate = Some true }

  -- an Open is in hand
  abbrev pub reopening : R → Pages R → Pages R
  reopening x p = record p { block = x ∷ [] }

  -- the Open in hand counts
  abbrev pub reopened : Pages R → Pages R
  reopened p = record (landed p) { opened = true }

  -- a restart and the begin of an Open for each entry, which says whether the restart found the block in hand
  abbrev pub restarts : R → List Bool → Pages R → Pages R
  restarts x [] p = p
  restarts x (kept ∷ more) p = restarts x more (reopening x (settled kept p))

  -- records that were read, before the first Open
  abbrev pub first_pages : List R → Pages R
  first_pages xs = record { records = xs; block = []; opened = false; fate = Some false }

  -- from a block in hand: after some restarts the Open behind the last one counts; without any, the block in hand is the Open
  abbrev pub IsBack : R → Pages R → Pages R → Type 0
  IsBack x p q = (more : List Bool) × (q ≡ reopened (restarts x more p))

  -- a restart that found the block in hand or not, and behind it an Open that counts
  abbrev pub Restarted : R → Bool → Pages R → Pages R → Type 0
  Restarted x kept p q = IsBack x (reopening x (settled kept p)) q

  -- from a block in hand: after some restarts an Open or that block is in hand, or a last restart has settled it
  abbrev pub UnderWay : R → Pages R → Pages R → Type 0
  UnderWay x p q = (more : List Bool) × ((q ≡ restarts x more p) ⊎ ((kept : Bool) × (q ≡ settled kept (restarts x more p))))

  -- an opening that was refused: no Open was begun, or it is under way
  abbrev pub Opening : R → Pages R → Pages R → Type 0
  Opening x p q = (q ≡ p) ⊎ UnderWay x (reopening x p) q
