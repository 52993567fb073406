-- What a disk in memory holds and what a stop may leave of it, from its first bytes and its calls.
use Rattle.std.specs.Prelude.{ℕ, ◌-◌, ◌≤◌, nat_le, List, [], ◌∷◌, ◌++◌, length, take, replicate, if◌then◌else◌}
use Rattle.std.specs.List.{flat_map}
use Rattle.dap_disk.specs.Disk.{written}
use Rattle.dap_disk.specs.Images.{Change, Written, CutTo, Allowed}
use Rattle.dap_disk.specs.declared.image.Image.{Image}
use Rattle.dap_disk.specs.declared.image.Image.TheVariants.{Old, New, Fill}
use Rattle.dap_disk.specs.declared.event.Event.{Event}
use Rattle.dap_disk.specs.declared.event.Event.TheVariants.{Wrote, Cut, Settled}

-- a write, where its place is in the file
abbrev pub laid : ℕ → List ℕ → List ℕ → List ℕ
laid at bytes c = if nat_le at (length c) then written at bytes c else c

-- what a rule leaves of a change: nothing, all of it, or the byte in each place that may be anything
abbrev pub put : Image → Change → List ℕ → List ℕ
put Old change c = c
put New (Written at bytes) c = laid at bytes c
put New (CutTo len) c = take len c
put (Fill b) (Written at bytes) c = laid at (replicate (length bytes) b) c
put (Fill b) (CutTo len) c = take len c ++ replicate (length c - len) b

-- what it leaves of changes, the oldest first
abbrev pub puts : Image → List Change → List ℕ → List ℕ
puts image [] c = c
puts image (change ∷ later) c = puts image later (put image change c)

-- the change that a call is, if it is one
abbrev pub change_of : Event → List Change
change_of (Wrote at bytes) = Written at bytes.items ∷ []
change_of (Cut len) = CutTo len ∷ []
change_of (Settled image) = []

-- the changes that calls are, in order
abbrev pub changes_of : List Event → List Change
changes_of events = flat_map change_of events

-- what was on the disk at the last sync or restart, and the changes since
pub record State : Type 0 where
  pub synced : List ℕ
  pub pending : List Change

-- what a rule leaves of all that waits for a sync
abbrev pub left_by : Image → State → List ℕ
left_by image s = puts image s.pending s.synced

-- a change waits for a sync; a sync or restart leaves what its rule says
abbrev pub after : State → Event → State
after s (Wrote at bytes) = record { synced = s.synced; pending = s.pending ++ Written at bytes.items ∷ [] }
after s (Cut len) = record { synced = s.synced; pending = s.pending ++ CutTo len ∷ [] }
after s (Settled image) = record { synced = left_by image s; pending = [] }

-- the state after calls, one after another
abbrev pub replay : State → List Event → State
replay s [] = s
replay s (e ∷ later) = replay (after s e) later

-- after these calls on a disk that began with these bytes
abbrev pub state_of : List ℕ → List Event → State
state_of first events = replay (record { synced = first; pending = [] }) events

-- what is held after these calls
abbrev pub held_after : List ℕ → List Event → List ℕ
held_after first events = left_by New (state_of first events)

-- what a stop may leave after these calls
abbrev pub IsImage : List ℕ → List Event → List ℕ → Type 0
IsImage first events c = Allowed (state_of first events).synced (state_of first events).pending c

-- what a stop might have left after at least t of these calls
abbrev pub WasImage : List ℕ → List Event → ℕ → List ℕ → Type 0
WasImage first events t c = (k : ℕ) × (t ≤ k) × (k ≤ length events) × IsImage first (take k events) c
