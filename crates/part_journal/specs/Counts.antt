-- How a call that goes on through stops moves the disk's counts.
use Rattle.std.specs.Prelude.{◌⊎◌, ◌≤◌, ◌<◌, ◌-◌, ℕ}
use Rattle.dap_bytes.specs.Causes.{Counts, CountsTries}

-- So many stops may come before the call, and so many after it: each that comes is counted and used up, and where none is left the call answers so. A restart that fails is counted, and answered with stops left. `stopped` says that the call answers `Stopped`.
pub record CountsStops {D : Type 0} (downs deads : D → ℕ) (stopped : Type 0) (before now : ℕ) (old new : D) : Type 0 where
  pub used : now ≤ before
  pub stops : CountsTries (before - now) (downs old) (downs new)
  pub deaths : Counts (stopped × (0 < now)) (deads old) (deads new)
  pub borne : stopped ⊎ (0 < now)
