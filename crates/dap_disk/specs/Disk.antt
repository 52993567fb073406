-- What the calls of a disk do to the bytes that it holds, and what a stop may leave of them.
use Rattle.std.specs.Prelude.{◌≡◌, ◌⊎◌, ℕ, ◌+◌, ◌≤◌, ◌<◌, ◌-◌, min, max, Bool, IsTrue, List, ◌++◌, length, take, drop, Option, Some, None}
use Rattle.dap_bytes.specs.Causes.{Counts}
use Rattle.dap_disk.specs.Images.{Change}

-- P of what is told, where it is told
abbrev pub Tells : Option (List ℕ) → (List ℕ → Type 0) → Type 0
Tells held P = (c : List ℕ) → held ≡ Some c → P c

-- f of what is told, where it is told
abbrev pub of_told : (List ℕ → List ℕ) → Option (List ℕ) → Option (List ℕ)
of_told f None = None
of_told f (Some c) = Some (f c)

-- with these bytes from this place on
abbrev pub written : ℕ → List ℕ → List ℕ → List ℕ
written at bytes c = take at c ++ (bytes ++ drop (at + length bytes) c)

-- What a stop may make of an image by a write of n bytes: any bytes in the range and past the old end, any length up to the new one.
pub record Torn (at n : ℕ) (old new : List ℕ) : Type 0 where
  pub before : take at new ≡ take at old
  pub after : drop (at + n) new ≡ drop (at + n) old
  pub no_shorter : length old ≤ length new
  pub no_longer : length new ≤ max (length old) (at + n)

-- What a stop may make of an image by a cut: any length down to the new one, any bytes past it.
pub record Shortened (len : ℕ) (old new : List ℕ) : Type 0 where
  pub front : take len new ≡ take len old
  pub no_shorter : min len (length old) ≤ length new
  pub no_longer : length new ≤ length old

-- each new image is an old one after a step
abbrev pub Follows : (List ℕ → List ℕ → Type 0) → (List ℕ → Type 0) → (List ℕ → Type 0) → Type 0
Follows step old new = (c : List ℕ) → new c → (d : List ℕ) × old d × step d c

-- no image is new
abbrev pub NoMore : (List ℕ → Type 0) → (List ℕ → Type 0) → Type 0
NoMore old new = (c : List ℕ) → new c → old c

-- each image is what is held, which is then told
abbrev pub Only : Option (List ℕ) → (List ℕ → Type 0) → Type 0
Only held images = (c : List ℕ) → images c → held ≡ Some c

-- A call adds one moment: what a stop since t might have left is what it might have left before the call, or may leave now.
pub record Elapses (before now : ℕ) (past since : ℕ → List ℕ → Type 0) (may_leave : List ℕ → Type 0) : Type 0 where
  pub later : before ≤ now
  pub nothing_else : (t : ℕ) (c : List ℕ) → t ≤ before → since t c → past t c ⊎ may_leave c
  pub keeps : (t : ℕ) (c : List ℕ) → t ≤ before → past t c → since t c

-- what a call that adds one moment does to the images of a disk
abbrev pub AddsMoment : {D : Type 0} → (D → ℕ) → (D → ℕ → List ℕ → Type 0) → (D → List ℕ → Type 0) → D → D → Type 0
AddsMoment moment left_since may_leave old new =
    Elapses (moment old) (moment new) (left_since old) (left_since new) (may_leave new)

-- a disk holds what it held, is up, and no image is new
abbrev pub IsUntouched : {D : Type 0} → (D → Option (List ℕ)) → (D → Bool) → (D → List ℕ → Type 0) → D → D → Type 0
IsUntouched holds up may_leave old new =
    (holds new ≡ holds old) × IsTrue (up new) × NoMore (may_leave old) (may_leave new)

-- a buffer has the first n bytes of c from this place on, none only past the end or where it has no room
abbrev pub ReadsFrom : ℕ → List ℕ → List ℕ → ℕ → List ℕ → Type 0
ReadsFrom at before now n c =
    (take n now ≡ take n (drop at c)) × (n ≤ length c - at) × (0 < length before → at < length c → 0 < n)

-- an image that comes by this step from one that was left
abbrev pub StepFrom : (List ℕ → Type 0) → (List ℕ → List ℕ → Type 0) → List ℕ → Type 0
StepFrom old step c = (d : List ℕ) × old d × step d c

-- at every moment since old each image has P
pub record LeavesOnly {D : Type 0} (moment : D → ℕ) (left_since : D → ℕ → List ℕ → Type 0) (old new : D) (P : List ℕ → Type 0) : Type 0 where
  pub later : moment old ≤ moment new
  pub each : (c : List ℕ) → left_since new (moment old) c → P c
  -- for a run that began earlier
  pub before : (t : ℕ) (c : List ℕ) → t ≤ moment old → left_since new t c → left_since old t c ⊎ P c

module _ {D : Type 0} (downs deads : D → ℕ) where
  -- a call that isn't a restart moves the count of stops alone; `stopped` says that it answers a stop
  pub record CountsStop (stopped : Type 0) (old new : D) : Type 0 where
    pub stops : Counts stopped (downs old) (downs new)
    pub no_death : deads new ≡ deads old

  -- a restart moves the count of those that failed alone; `dead` says that it answers so
  pub record CountsDeath (dead : Type 0) (old new : D) : Type 0 where
    pub deaths : Counts dead (deads old) (deads new)
    pub no_stop : downs new ≡ downs old

  -- a restart with calls behind it moves each count where it answers so
  pub record CountsRestart (stopped dead : Type 0) (old new : D) : Type 0 where
    pub stops : Counts stopped (downs old) (downs new)
    pub deaths : Counts dead (deads old) (deads new)

-- what a call is to what decides where the disk stops: it looks, it makes a change, it syncs, it was refused for want of memory and doesn't count, or it is a restart
pub data Move : Type 0 where
  Looked : Move
  Changed : Change → Move
  Synced : Move
  Refused : Move
  Restarted : Move
