-- The two ends of a ring of uploads.
use Rattle.std.specs.Prelude.{◌≡◌, ◌≤◌, ℕ, ◌+◌, List, ◌++◌, length}
use mathlib.Core.List.{IsPrefix}
use Rattle.dap_wire.specs.Ring.{Ring}
use Rattle.dap_wire.specs.declared.upload.Upload.{Upload}
use Rattle.dap_wire.specs.declared.places.TheConstants.{UPLOAD_PLACES}

-- a front's end: what it has put, and how many places it knows to be free
pub record Putting : Type 0 where
  pub out : Ring
  pub sent : List Upload
  pub room : ℕ

-- a lane's end: what it has taken, and what it knows to wait
pub record Taking : Type 0 where
  pub into : Ring
  pub received : List Upload
  pub waiting : List Upload

-- the same end, which may know of more room
pub record LooksOut (old new : Putting) : Type 0 where
  pub out : new.out ≡ old.out
  pub sent : new.sent ≡ old.sent
  pub room : old.room ≤ new.room

-- the same end, which may know of more uploads
pub record LooksIn (old new : Taking) : Type 0 where
  pub into : new.into ≡ old.into
  pub received : new.received ≡ old.received
  pub waiting : IsPrefix old.waiting new.waiting

-- the ring as read at either end is what was put and not taken, of at most 1,024 places
pub record UploadsMet (front : Putting) (lane : Taking) : Type 0 where
  pub all : lane.received ++ lane.waiting ≡ front.sent
  pub places : length lane.waiting ≤ UPLOAD_PLACES
  pub room : UPLOAD_PLACES ≤ front.room + length lane.waiting
