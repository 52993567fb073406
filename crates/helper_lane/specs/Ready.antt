-- A message that a lane has taken.
use Rattle.std.specs.Prelude.{◌≡◌, ◌⊎◌, ℕ, List, true, Option, Some, Ok}
use Rattle.std.specs.List.{find}
use Rattle.dap_messages.specs.declared.job.JobNo.{JobNo}
use Rattle.dap_messages.specs.declared.body.Half.{Half}
use Rattle.dap_messages.specs.declared.body.Step.{Step}
use Rattle.dap_messages.specs.declared.item.Tagged.{Tagged}
use Rattle.dap_messages.specs.declared.message.Message.{Message}
use Rattle.dap_messages.specs.declared.message.Message.TheVariants.{InitReq, ContReq}
use Rattle.dap_messages.specs.Grammar.{whole}
use Rattle.dap_messages.specs.Messages.{message}
use Rattle.dap_tasks.specs.Task.{PlainTask, has_name}
use Rattle.lane_records.specs.declared.record.Record.{Record}
use Rattle.legal_journals.specs.History.{first}
use Rattle.legal_journals.specs.HistoryTests.{same_ids}
use Rattle.helper_lane.specs.declared.refusal.TakeRefusal.TheVariants.{JobConflict}
use Rattle.helper_lane.specs.Reply.{Env, Refused, Reacts, Started, start_if, is_mine, reply}

-- an InitReq of the lane under one of its tasks, or a ContReq of a job that has its Start
abbrev pub Ready : Env → List Record → List ℕ → Type 0
Ready env l b =
    ((j : JobNo) × (n : List ℕ) × (hs : List (Tagged Half)) × (t : PlainTask) × (whole message b ≡ Ok (InitReq j n hs)) × (is_mine env.lanes env.lane j hs ≡ true) × (find (has_name n) env.tasks ≡ Some t))
    ⊎ ((j : JobNo) × (xs : List (Tagged Step)) × (s : Started) × (t : PlainTask) × (whole message b ≡ Ok (ContReq j xs)) × (is_mine env.lanes env.lane j xs ≡ true) × (first (start_if j) l ≡ Some s) × (same_ids s.halves xs ≡ true) × (find (has_name s.name) env.tasks ≡ Some t))

-- it is answered, or its job is known with another request
abbrev pub IsAnswerable : Env → List Record → List ℕ → Type 0
IsAnswerable env l b = ((o : Option Record) × (m : Message) × (reply env l b ≡ Reacts o m)) ⊎ (reply env l b ≡ Refused JobConflict)
