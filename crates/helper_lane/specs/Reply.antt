-- What a helper's lane answers a message: a function of its tasks, its records and the message's bytes. Lists of records have the newest first.
use Rattle.std.specs.Prelude.{ℕ, ◌==◌, Bool, true, false, ◌&&◌, if◌then◌else◌, List, [], ◌∷◌, map, Option, Some, None, Result, Ok, Err}
use Rattle.std.specs.List.{find, list_any, list_all}
use Rattle.std.specs.Str.{bytes_eq}
use Rattle.std.specs.Cmp.Lexicographic.{pointwise}
use Rattle.dap_batch.specs.Group.{batch_start, lane_number}
use Rattle.vdaf_api.specs.declared.kind.Kind.{Kind}
use Rattle.vdaf_api.specs.Functions.{Functions}
use Rattle.dap_tasks.specs.Task.{PlainTask, has_name}
use Rattle.dap_seal.specs.Steps.{prep_by, outcome_by}
use Rattle.dap_messages.specs.declared.code.Code.{Code}
use Rattle.dap_messages.specs.declared.code.Code.TheVariants.{BatchCollected, ReportReplayed}
use Rattle.dap_messages.specs.declared.job.JobNo.{JobNo}
use Rattle.dap_messages.specs.declared.body.Half.{Half}
use Rattle.dap_messages.specs.declared.body.Step.{Step}
use Rattle.dap_messages.specs.declared.body.Status.{Status}
use Rattle.dap_messages.specs.declared.body.Status.TheVariants as statuses
use Rattle.dap_messages.specs.declared.item.Tagged.{Tagged}
use Rattle.dap_messages.specs.declared.message.Message.{Message}
use Rattle.dap_messages.specs.declared.message.Message.TheVariants.{InitReq, InitResp, ContReq, ContResp}
use Rattle.dap_messages.specs.Grammar.{whole}
use Rattle.dap_messages.specs.Jobs.{is_same_job}
use Rattle.dap_messages.specs.Messages.{message}
use Rattle.lane_records.specs.declared.outcome.Outcome.{Outcome}
use Rattle.lane_records.specs.declared.outcome.Outcome.TheVariants.{Finished, Failed}
use Rattle.lane_records.specs.declared.record.Record.{Record}
use Rattle.lane_records.specs.declared.record.Record.TheVariants.{Start, Commit}
use Rattle.legal_journals.specs.History.{first}
use Rattle.legal_journals.specs.HistoryTests.{is_open, same_ids}
use Rattle.legal_journals.specs.LaneTests.{was_finished, helper_closes}
use Rattle.helper_lane.specs.declared.refusal.TakeRefusal.{TakeRefusal}
use Rattle.helper_lane.specs.declared.refusal.TakeRefusal.TheVariants.{Form, WrongLane, NoTask, JobConflict, NoJob, ReportsDiffer}

-- what a lane is made with: each kind's function, how many lanes there are, which of them it is, and its tasks
pub record Env : Type 0 where
  pub functions : Kind → Functions
  pub lanes : ℕ
  pub lane : ℕ
  pub tasks : List PlainTask

-- what becomes of a message: it is refused, or a reply is sent, behind a new record or not
pub data Reacted : Type 0 where
  Refused : TakeRefusal → Reacted
  Reacts : Option Record → Message → Reacted

-- ---- one report

-- the helper's first step on a half
abbrev pub first_item : (Kind → Functions) → PlainTask → List ℕ → Tagged Half → Tagged Step
first_item f t n h = record { id = h.id; body = prep_by f t n h }

-- the first steps of a job
abbrev pub first_steps : (Kind → Functions) → PlainTask → List ℕ → List (Tagged Half) → List (Tagged Step)
first_steps f t n hs = map (first_item f t n) hs

-- an out share or a code, as a record has it
abbrev pub as_outcome : Result (List ℕ) Code → Outcome
as_outcome (Ok out) = Finished out
as_outcome (Err code) = Failed code

-- what the leader's item comes to, whatever stands in the records
abbrev pub prepared_outcome : (Kind → Functions) → PlainTask → List ℕ → Tagged Half → Step → Outcome
prepared_outcome f t n h item = as_outcome (outcome_by f t n h item)

-- finished, unless the report's bucket is closed or the report was finished before
abbrev pub if_new : Bool → Bool → List ℕ → Outcome
if_new true was out = Failed BatchCollected
if_new false true out = Failed ReportReplayed
if_new false false out = Finished out

-- the outcome by the records too
abbrev pub by_records : PlainTask → List ℕ → Tagged Half → List Record → Outcome → Outcome
by_records t n h l (Finished out) = if_new (list_any (helper_closes n (batch_start h.body.time t.precision)) l) (was_finished n h.id l) out
by_records t n h l (Failed code) = Failed code

-- the outcome of a half and the leader's item
abbrev pub outcome_of : (Kind → Functions) → PlainTask → List ℕ → List Record → Tagged Half → Step → Tagged Outcome
outcome_of f t n l h item = record { id = h.id; body = by_records t n h l (prepared_outcome f t n h item) }

-- the outcomes of a job, report by report
abbrev pub outcomes : (Kind → Functions) → PlainTask → List ℕ → List Record → List (Tagged Half) → List (Tagged Step) → List (Tagged Outcome)
outcomes f t n l [] xs = []
outcomes f t n l (h ∷ hs) [] = []
outcomes f t n l (h ∷ hs) (x ∷ xs) = outcome_of f t n l h x.body ∷ outcomes f t n l hs xs

-- an outcome as a message tells it
abbrev pub status_of : Outcome → Status
status_of (Finished out) = statuses.Finished
status_of (Failed code) = statuses.Failed code

-- the same of a report
abbrev pub told_outcome : Tagged Outcome → Tagged Status
told_outcome o = record { id = o.id; body = status_of o.body }

-- the outcomes of a job as a message tells them
abbrev pub told_outcomes : List (Tagged Outcome) → List (Tagged Status)
told_outcomes outs = map told_outcome outs

-- ---- what stands in the records

-- what a Start says of its job: the task's name, and what the helper got of each report
pub record Started : Type 0 where
  pub name : List ℕ
  pub halves : List (Tagged Half)

-- the value, or none
abbrev pub some_if : {A : Type 0} → Bool → A → Option A
some_if true x = Some x
some_if false x = None

-- what the record says, if it is the job's Start
abbrev pub start_if : JobNo → Record → Option Started
start_if j (Start job n hs) = some_if (is_same_job job j) (record { name = n; halves = hs })
start_if j _ = None

-- the outcomes, if the record is the job's Commit
abbrev pub commit_if : JobNo → Record → Option (List (Tagged Outcome))
commit_if j (Commit job outs) = some_if (is_same_job job j) outs
commit_if j _ = None

-- both halves are one
abbrev pub same_half : Tagged Half → Tagged Half → Bool
same_half a b = bytes_eq a.id b.id && (a.body.time == b.body.time && (bytes_eq a.body.public b.body.public && bytes_eq a.body.helper b.body.helper))

-- the Start is that of a request with this name and these halves
abbrev pub same_start : Started → List ℕ → List (Tagged Half) → Bool
same_start s n hs = bytes_eq s.name n && pointwise same_half s.halves hs

-- the identifier is of this lane among so many
abbrev pub is_here : ℕ → ℕ → List ℕ → Bool
is_here lanes lane id = lane_number id lanes == lane

-- job and reports are of the lane
abbrev pub is_mine : {B : Type 0} → ℕ → ℕ → JobNo → List (Tagged B) → Bool
is_mine lanes lane j xs = j.lane == lane && list_all (λ x. is_here lanes lane x.id) xs

-- ---- the reply

-- where a message is no request: the place of its fault, or 0 where its first byte begins none
abbrev pub form_at : List ℕ → ℕ → ℕ
form_at [] at = at
form_at (first ∷ rest) at = if first == 1 then at else (if first == 3 then at else 0)

-- to an InitReq under a task, by what the job's Start says, if there is one
abbrev pub init_known : Env → PlainTask → JobNo → List ℕ → List (Tagged Half) → Option Started → Reacted
init_known env t j n hs None = Reacts (Some (Start j n hs)) (InitResp j (first_steps env.functions t n hs))
init_known env t j n hs (Some s) = if same_start s n hs then Reacts None (InitResp j (first_steps env.functions t n hs)) else Refused JobConflict

-- to an InitReq of the lane, by its task, if the lane has it
abbrev pub init_under : Env → List Record → JobNo → List ℕ → List (Tagged Half) → Option PlainTask → Reacted
init_under env l j n hs None = Refused NoTask
init_under env l j n hs (Some t) = init_known env t j n hs (first (start_if j) l)

-- to an InitReq
abbrev pub init_reply : Env → List Record → JobNo → List ℕ → List (Tagged Half) → Reacted
init_reply env l j n hs = if is_mine env.lanes env.lane j hs then init_under env l j n hs (find (has_name n) env.tasks) else Refused WrongLane

-- to a ContReq of a started job under its task, by the outcomes of its Commit, if there is one
abbrev pub cont_known : Env → List Record → PlainTask → JobNo → Started → List (Tagged Step) → Option (List (Tagged Outcome)) → Reacted
cont_known env l t j s xs (Some outs) = Reacts None (ContResp j (told_outcomes outs))
cont_known env l t j s xs None =
    Reacts (Some (Commit j (outcomes env.functions t s.name l s.halves xs))) (ContResp j (told_outcomes (outcomes env.functions t s.name l s.halves xs)))

-- to a ContReq of a started job, by its task, which a lane always has: without one nothing is known of the job
abbrev pub cont_under : Env → List Record → JobNo → Started → List (Tagged Step) → Option PlainTask → Reacted
cont_under env l j s xs None = Refused NoJob
cont_under env l j s xs (Some t) = cont_known env l t j s xs (first (commit_if j) l)

-- to a ContReq of the lane, by what the job's Start says, if there is one
abbrev pub cont_started : Env → List Record → JobNo → List (Tagged Step) → Option Started → Reacted
cont_started env l j xs None = Refused NoJob
cont_started env l j xs (Some s) = if same_ids s.halves xs then cont_under env l j s xs (find (has_name s.name) env.tasks) else Refused ReportsDiffer

-- to a ContReq
abbrev pub cont_reply : Env → List Record → JobNo → List (Tagged Step) → Reacted
cont_reply env l j xs = if is_mine env.lanes env.lane j xs then cont_started env l j xs (first (start_if j) l) else Refused WrongLane

-- to the message that the bytes spell, or the place of their fault
abbrev pub reply_to : Env → List Record → List ℕ → Result Message ℕ → Reacted
reply_to env l b (Ok (InitReq j n hs)) = init_reply env l j n hs
reply_to env l b (Ok (ContReq j xs)) = cont_reply env l j xs
reply_to env l b (Ok _) = Refused (Form 0)
reply_to env l b (Err at) = Refused (Form (form_at b at))

-- what becomes of the message of these bytes
abbrev pub reply : Env → List Record → List ℕ → Reacted
reply env l b = reply_to env l b (whole message b)

-- ---- records without Opens

-- the list with the value in front, or without it
abbrev pub unless : {A : Type 0} → Bool → A → List A → List A
unless true x l = l
unless false x l = x ∷ l

-- the records that aren't Opens
abbrev pub quiet : List Record → List Record
quiet [] = []
quiet (x ∷ l) = unless (is_open x) x (quiet l)
