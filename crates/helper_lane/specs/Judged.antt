-- What a lane finds for a message.
use Rattle.std.specs.Prelude.{◌≡◌, ℕ, List, Some, None, Result, Ok, Err}
use Rattle.std.specs.Borrow.{Bor}
use Rattle.std.specs.List.{find}
use Rattle.std.specs.Option.{option_map}
use Rattle.dap_messages.specs.declared.job.JobNo.{JobNo}
use Rattle.dap_messages.specs.declared.body.Half.{Half}
use Rattle.dap_messages.specs.declared.body.Step.{Step}
use Rattle.dap_messages.specs.declared.item.Tagged.{Tagged}
use Rattle.dap_tasks.specs.Task.{PlainTask, has_name}
use Rattle.lane_records.specs.declared.place.LaneFault.TheVariants as lane
use Rattle.lane_records.specs.declared.record.Record.{Record}
use Rattle.legal_journals.specs.History.{first}
use Rattle.helper_lane.specs.declared.found.Found.{Found}
use Rattle.helper_lane.specs.declared.refusal.CheckFault.{CheckFault}
use Rattle.helper_lane.specs.declared.refusal.TakeFault.{TakeFault}
use Rattle.helper_lane.specs.declared.refusal.TakeFault.TheVariants.{Refused, Lane}
use Rattle.helper_lane.specs.declared.refusal.TakeRefusal.{TakeRefusal}
use Rattle.helper_lane.specs.Input.{Input, input_for, started_input}
use Rattle.helper_lane.specs.Refusals.{as_taken, refusal_of}
use Rattle.helper_lane.specs.Reply.{Env, init_reply, cont_reply, reply, start_if}

-- the input of a message with what was found for it
abbrev pub input_with : List ℕ → Found → Input
input_with b found = record { task = found.task.now; message = b; started = option_map (λ hs. hs.now) found.started }

-- an InitReq isn't refused, and this is its task; or it is refused so
abbrev pub JudgesInit : Env → List Record → JobNo → List ℕ → List (Tagged Half) → Result (Bor PlainTask) CheckFault → Type 0
JudgesInit env l j n hs (Ok task) = (refusal_of (init_reply env l j n hs) ≡ None) × (find (has_name n) env.tasks ≡ Some task.now)
JudgesInit env l j n hs (Err why) = refusal_of (init_reply env l j n hs) ≡ Some (as_taken why)

-- a request isn't refused; or it is refused so
abbrev pub Checks : Env → List Record → List ℕ → Result (Unit {0}) CheckFault → Type 0
Checks env l b (Ok _) = refusal_of (reply env l b) ≡ None
Checks env l b (Err why) = refusal_of (reply env l b) ≡ Some (as_taken why)

-- a ContReq isn't refused, and this is its task, with its job's halves; or it is refused so
abbrev pub JudgesCont : Env → List Record → JobNo → List (Tagged Step) → Result Found TakeRefusal → Type 0
JudgesCont env l j xs (Ok found) = (refusal_of (cont_reply env l j xs) ≡ None) × ((b : List ℕ) → started_input env b (first (start_if j) l) ≡ Some (input_with b found))
JudgesCont env l j xs (Err why) = refusal_of (cont_reply env l j xs) ≡ Some why

-- a message isn't refused, and this is what is found for it; or it is refused so, or memory ran out
abbrev pub Judges : Env → List Record → List ℕ → Result Found TakeFault → Type 0
Judges env l b (Ok found) = (refusal_of (reply env l b) ≡ None) × (input_for env l b ≡ Some (input_with b found))
Judges env l b (Err (Refused why)) = refusal_of (reply env l b) ≡ Some why
Judges env l b (Err (Lane fault)) = fault ≡ lane.NoMemory
