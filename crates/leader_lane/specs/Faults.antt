-- What a lane answers of its journal's calls.
use Rattle.std.specs.Prelude.{Bool, true, false, Result, Ok, Err}
use Rattle.lane_records.specs.declared.place.LaneFault.{LaneFault}
use Rattle.lane_records.specs.declared.place.LaneFault.TheVariants.{Stopped as LaneStopped, NoMemory as LaneNoMemory}
use Rattle.part_journal.specs.declared.fault.PartFault.{PartFault}
use Rattle.part_journal.specs.declared.fault.PartFault.TheVariants.{Stopped as PartStopped, NoMemory as PartNoMemory}

-- the lane's fault by the journal's
abbrev pub fault_of : PartFault → LaneFault
fault_of PartStopped = LaneStopped
fault_of PartNoMemory = LaneNoMemory

-- the same answer with the lane's fault
abbrev pub of_lane : {A : Type 0} → Result A PartFault → Result A LaneFault
of_lane (Ok a) = Ok a
of_lane (Err f) = Err (fault_of f)

-- the fault is that the disk stopped
abbrev pub is_stop : PartFault → Bool
is_stop PartStopped = true
is_stop PartNoMemory = false

-- the call answered so
abbrev pub has_stopped : {A : Type 0} → Result A PartFault → Bool
has_stopped (Ok a) = false
has_stopped (Err f) = is_stop f
