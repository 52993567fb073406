-- Whether records suit what a lane is made with.
use Rattle.std.specs.Prelude.{ℕ, ◌==◌, Bool, true, ◌&&◌, List, Option, Some, None, is_some}
use Rattle.std.specs.List.{find}
use Rattle.dap_tasks.specs.Task.{PlainTask, has_name}
use Rattle.lane_records.specs.declared.record.Record.{Record}
use Rattle.lane_records.specs.declared.record.Record.TheVariants.{Start}
use Rattle.legal_journals.specs.History.{lanes_in}
use Rattle.helper_lane.specs.Reply.{Env}

-- where a record names a number of lanes, it is this one
abbrev pub names_lanes : ℕ → Option ℕ → Bool
names_lanes lanes None = true
names_lanes lanes (Some n) = n == lanes

-- a Start's name is that of a task
abbrev pub names_task : List PlainTask → Record → Bool
names_task tasks (Start j n hs) = is_some (find (has_name n) tasks)
names_task tasks _ = true

-- both
abbrev pub suits : Env → Record → Bool
suits env x = names_lanes env.lanes (lanes_in x) && names_task env.tasks x
