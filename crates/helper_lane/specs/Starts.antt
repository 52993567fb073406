-- The Starts of a lane's records.
use Rattle.std.specs.Prelude.{◌≡◌, List, reverse}
use Rattle.dap_messages.specs.declared.job.JobNo.{JobNo}
use Rattle.lane_records.specs.declared.record.Record.{Record}
use Rattle.legal_journals.specs.History.{first}
use Rattle.helper_lane.specs.Reply.{start_if}

-- a job's Start is the same, whichever end of the records is looked at first
abbrev pub StartsOnce : List Record → Type 0
StartsOnce records = (j : JobNo) → first (start_if j) (reverse records) ≡ first (start_if j) records
