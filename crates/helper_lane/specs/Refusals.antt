-- What a lane's calls find out of a message.
use Rattle.std.specs.Prelude.{ℕ, List, Option, Some, None}
use Rattle.vdaf_api.specs.declared.kind.Kind.{Kind}
use Rattle.vdaf_api.specs.Functions.{Functions}
use Rattle.dap_messages.specs.declared.body.Half.{Half}
use Rattle.dap_messages.specs.declared.item.Tagged.{Tagged}
use Rattle.dap_tasks.specs.Task.{PlainTask}
use Rattle.lane_records.specs.declared.place.Place.{Place}
use Rattle.helper_lane.specs.declared.refusal.CheckFault.{CheckFault}
use Rattle.helper_lane.specs.declared.refusal.CheckFault.TheVariants as checks
use Rattle.helper_lane.specs.declared.refusal.TakeRefusal.{TakeRefusal}
use Rattle.helper_lane.specs.declared.refusal.TakeRefusal.TheVariants as takes
use Rattle.helper_lane.specs.Reply.{Env, Reacted, Refused, Reacts, Started}

-- what a lane at this place is made with
abbrev pub env_of : (Kind → Functions) → Place → List PlainTask → Env
env_of f place tasks = record { functions = f; lanes = place.lanes; lane = place.lane; tasks = tasks }

-- a Start's name and halves
abbrev pub started : List ℕ → List (Tagged Half) → Started
started n hs = record { name = n; halves = hs }

-- why a message is refused, if it is
abbrev pub refusal_of : Reacted → Option TakeRefusal
refusal_of (Refused why) = Some why
refusal_of (Reacts asked answer) = None

-- a refusal of a request that was checked, as one of a message
abbrev pub as_taken : CheckFault → TakeRefusal
as_taken checks.WrongLane = takes.WrongLane
as_taken checks.NoTask = takes.NoTask
as_taken checks.JobConflict = takes.JobConflict
