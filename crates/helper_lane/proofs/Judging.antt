-- The refusals of requests, cause by cause.
use Rattle.std.proofs.Common.{◌≡◌, ℕ, Bool, true, false, List, Option, Some, None, Result, Ok, Err, refl, ap, ◌∙◌}
use Rattle.std.specs.Prelude.{if◌then◌else◌}
use Rattle.std.specs.List.{find}
use Rattle.std.specs.Option.{option_map}
use Rattle.dap_messages.specs.declared.body.Half.{Half}
use Rattle.dap_messages.specs.declared.body.Step.{Step}
use Rattle.dap_messages.specs.declared.fault.ReadFault.{ReadFault}
use Rattle.dap_messages.specs.declared.fault.ReadFault.TheVariants as reads
use Rattle.dap_messages.specs.declared.item.Tagged.{Tagged}
use Rattle.dap_messages.specs.declared.job.JobNo.{JobNo}
use Rattle.dap_messages.specs.declared.message.Message.{Message}
use Rattle.dap_messages.specs.declared.message.Message.TheVariants.{InitResp}
use Rattle.dap_messages.specs.Grammar.{whole}
use Rattle.dap_messages.specs.Messages.{message}
use Rattle.dap_messages.specs.Spelled.{Reads}
use Rattle.dap_tasks.specs.Task.{PlainTask, has_name}
use Rattle.lane_records.specs.declared.outcome.Outcome.{Outcome}
use Rattle.lane_records.specs.declared.record.Record.{Record}
use Rattle.legal_journals.specs.History.{first}
use Rattle.legal_journals.specs.HistoryTests.{same_ids}
use Rattle.helper_lane.specs.declared.refusal.TakeRefusal.TheVariants.{WrongLane, NoTask, JobConflict, NoJob, ReportsDiffer}
use Rattle.helper_lane.specs.Input.{cont_input, started_input}
use Rattle.helper_lane.specs.Refusals.{refusal_of}
use Rattle.helper_lane.specs.Reply.{Env, Reacted, Refused, Reacts, Started, first_steps, cont_known, cont_reply, cont_started, cont_under, init_known, init_reply, init_under, is_mine, same_start, start_if, commit_if}

-- bytes that are read as none
pub reads_form : (b : List ℕ) (r : Result Message ReadFault) (at : ℕ) → Reads message b r → r ≡ Err (reads.Form at) → whole message b ≡ Err at
reads_form b (Ok m) at h e = absurd (cc e)
reads_form b (Err reads.NoMemory) at h e = absurd (cc e)
reads_form b (Err (reads.Form place)) at h e = let same : place ≡ at = cc e in h ∙ ap (λ (n : ℕ). let o : Result Message ℕ = Err n in o) same

module _ (env : Env) (l : List Record) (j : JobNo) (n : List ℕ) (hs : List (Tagged Half)) where
  pub init_wrong_lane : is_mine env.lanes env.lane j hs ≡ false → refusal_of (init_reply env l j n hs) ≡ Some WrongLane
  init_wrong_lane e = ap (λ (b : Bool). refusal_of (if b then init_under env l j n hs (find (has_name n) env.tasks) else Refused WrongLane)) e

  mine : is_mine env.lanes env.lane j hs ≡ true → refusal_of (init_reply env l j n hs) ≡ refusal_of (init_under env l j n hs (find (has_name n) env.tasks))
  mine e = ap (λ (b : Bool). refusal_of (if b then init_under env l j n hs (find (has_name n) env.tasks) else Refused WrongLane)) e

  pub init_no_task : is_mine env.lanes env.lane j hs ≡ true → find (has_name n) env.tasks ≡ None → refusal_of (init_reply env l j n hs) ≡ Some NoTask
  init_no_task e none = mine e ∙ ap (λ (o : Option PlainTask). refusal_of (init_under env l j n hs o)) none

  under : (t : PlainTask) → is_mine env.lanes env.lane j hs ≡ true → find (has_name n) env.tasks ≡ Some t → refusal_of (init_reply env l j n hs) ≡ refusal_of (init_known env t j n hs (first (start_if j) l))
  under t e found = mine e ∙ ap (λ (o : Option PlainTask). refusal_of (init_under env l j n hs o)) found

  abbrev again : PlainTask → Reacted
  again t = Reacts None (InitResp j (first_steps env.functions t n hs))

  by_start : (t : PlainTask) (s : Started) (b : Bool) → same_start s n hs ≡ b → refusal_of (init_known env t j n hs (Some s)) ≡ (if b then None else Some JobConflict)
  by_start t s true e = ap (λ (x : Bool). refusal_of (if x then again t else Refused JobConflict)) e
  by_start t s false e = ap (λ (x : Bool). refusal_of (if x then again t else Refused JobConflict)) e

  pub init_conflict : (t : PlainTask) (s : Started) → is_mine env.lanes env.lane j hs ≡ true → find (has_name n) env.tasks ≡ Some t → first (start_if j) l ≡ Some s → same_start s n hs ≡ false
      → refusal_of (init_reply env l j n hs) ≡ Some JobConflict
  init_conflict t s e found started other = under t e found ∙ ap (λ (o : Option Started). refusal_of (init_known env t j n hs o)) started ∙ by_start t s false other

  pub init_again : (t : PlainTask) (s : Started) → is_mine env.lanes env.lane j hs ≡ true → find (has_name n) env.tasks ≡ Some t → first (start_if j) l ≡ Some s → same_start s n hs ≡ true
      → refusal_of (init_reply env l j n hs) ≡ None
  init_again t s e found started same = under t e found ∙ ap (λ (o : Option Started). refusal_of (init_known env t j n hs o)) started ∙ by_start t s true same

  pub init_new : (t : PlainTask) → is_mine env.lanes env.lane j hs ≡ true → find (has_name n) env.tasks ≡ Some t → first (start_if j) l ≡ None → refusal_of (init_reply env l j n hs) ≡ None
  init_new t e found none = under t e found ∙ ap (λ (o : Option Started). refusal_of (init_known env t j n hs o)) none

module _ (env : Env) (l : List Record) (j : JobNo) (xs : List (Tagged Step)) where
  pub cont_wrong_lane : is_mine env.lanes env.lane j xs ≡ false → refusal_of (cont_reply env l j xs) ≡ Some WrongLane
  cont_wrong_lane e = ap (λ (b : Bool). refusal_of (if b then cont_started env l j xs (first (start_if j) l) else Refused WrongLane)) e

  own : (o : Option Started) → is_mine env.lanes env.lane j xs ≡ true → first (start_if j) l ≡ o → refusal_of (cont_reply env l j xs) ≡ refusal_of (cont_started env l j xs o)
  own o e started = ap (λ (b : Bool). refusal_of (if b then cont_started env l j xs (first (start_if j) l) else Refused WrongLane)) e ∙ ap (λ (s : Option Started). refusal_of (cont_started env l j xs s)) started

  pub cont_no_job : is_mine env.lanes env.lane j xs ≡ true → first (start_if j) l ≡ None → refusal_of (cont_reply env l j xs) ≡ Some NoJob
  cont_no_job e none = own None e none

  by_ids : (s : Started) (b : Bool) → same_ids s.halves xs ≡ b → refusal_of (cont_started env l j xs (Some s)) ≡ refusal_of (if b then cont_under env l j s xs (find (has_name s.name) env.tasks) else Refused ReportsDiffer)
  by_ids s b e = ap (λ (x : Bool). refusal_of (if x then cont_under env l j s xs (find (has_name s.name) env.tasks) else Refused ReportsDiffer)) e

  pub cont_differ : (s : Started) → is_mine env.lanes env.lane j xs ≡ true → first (start_if j) l ≡ Some s → same_ids s.halves xs ≡ false → refusal_of (cont_reply env l j xs) ≡ Some ReportsDiffer
  cont_differ s e started other = own (Some s) e started ∙ by_ids s false other

  pub cont_no_task : (s : Started) → is_mine env.lanes env.lane j xs ≡ true → first (start_if j) l ≡ Some s → same_ids s.halves xs ≡ true → find (has_name s.name) env.tasks ≡ None
      → refusal_of (cont_reply env l j xs) ≡ Some NoJob
  cont_no_task s e started same none = own (Some s) e started ∙ by_ids s true same ∙ ap (λ (o : Option PlainTask). refusal_of (cont_under env l j s xs o)) none

  known : (t : PlainTask) (s : Started) (o : Option (List (Tagged Outcome))) → refusal_of (cont_known env l t j s xs o) ≡ None
  known t s (Some outs) = refl
  known t s None = refl

  pub cont_taken : (t : PlainTask) (s : Started) → is_mine env.lanes env.lane j xs ≡ true → first (start_if j) l ≡ Some s → same_ids s.halves xs ≡ true → find (has_name s.name) env.tasks ≡ Some t
      → refusal_of (cont_reply env l j xs) ≡ None
  cont_taken t s e started same found = own (Some s) e started ∙ by_ids s true same ∙ ap (λ (o : Option PlainTask). refusal_of (cont_under env l j s xs o)) found ∙ known t s (first (commit_if j) l)

  -- and what is found for it
  pub cont_input_is : (b : List ℕ) (t : PlainTask) (s : Started) → first (start_if j) l ≡ Some s → find (has_name s.name) env.tasks ≡ Some t → started_input env b (first (start_if j) l) ≡ Some (cont_input b s.halves t)
  cont_input_is b t s started found = ap (λ (o : Option Started). started_input env b o) started ∙ ap (λ (o : Option PlainTask). option_map (cont_input b s.halves) o) found
