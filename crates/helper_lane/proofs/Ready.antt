-- A message that was taken stays answerable.
use Rattle.std.proofs.Common.{◌≡◌, ◌⊎◌, inl, inr, ℕ, Bool, true, false, List, ◌∷◌, Option, Some, None, Result, refl, ap, subst, ◌∙◌}
use Rattle.std.specs.Prelude.{if◌then◌else◌}
use Rattle.std.specs.Option.{option_or}
use Rattle.std.specs.List.{find}
use Rattle.dap_bytes.specs.declared.node.Node.TheVariants.{Helper}
use Rattle.dap_bytes.specs.declared.part.Part.TheVariants.{Lane}
use Rattle.dap_messages.specs.declared.job.JobNo.{JobNo}
use Rattle.dap_messages.specs.declared.body.Half.{Half}
use Rattle.dap_messages.specs.declared.body.Step.{Step}
use Rattle.dap_messages.specs.declared.item.Tagged.{Tagged}
use Rattle.dap_messages.specs.declared.message.Message.{Message}
use Rattle.dap_messages.specs.declared.message.Message.TheVariants.{InitResp}
use Rattle.dap_tasks.specs.Task.{PlainTask, has_name}
use Rattle.lane_records.specs.declared.outcome.Outcome.{Outcome}
use Rattle.lane_records.specs.declared.record.Record.{Record}
use Rattle.lane_records.specs.declared.record.Record.TheVariants.{Start}
use Rattle.legal_journals.specs.History.{Mem, first}
use Rattle.legal_journals.specs.Legal.{May}
use Rattle.helper_lane.specs.declared.refusal.TakeRefusal.TheVariants.{WrongLane, JobConflict, ReportsDiffer}
use Rattle.helper_lane.specs.Reply.{Env, Reacted, Refused, Reacts, Started, start_if, commit_if, same_start, first_steps, init_known, init_under, cont_known, cont_under, cont_started, reply_to, reply}
use Rattle.helper_lane.specs.Ready.{Ready, IsAnswerable}
use Rattle.helper_lane.proofs.Members.{first_some, start_found}
use Rattle.helper_lane.proofs.Rests.{Inits, Conts, looks}

-- a job's Start stays
start_stays : (lane : ℕ) (l : List Record) (x : Record) (j : JobNo) (s : Started) → May Helper (Lane lane) x l → first (start_if j) l ≡ Some s → first (start_if j) (x ∷ l) ≡ Some s
start_stays lane l x j s may e = go (start_if j x) refl where
  go : (o : Option Started) → start_if j x ≡ o → option_or o (first (start_if j) l) ≡ Some s
  go None is = e
  go (Some k) is =
      let w = first_some (start_if j) l s e in
      let here : x ≡ Start j k.name k.halves = start_found j x k is in
      let stands : Mem (Start j s.name s.halves) l = subst (λ (y : Record). Mem y l) (start_found j w.0 s w.2) w.1 in
      absurd ((subst (λ (y : Record). May Helper (Lane lane) y l) here may).2.2 (s.name, s.halves, stands))

pub ready_more : (env : Env) (l : List Record) (x : Record) (b : List ℕ) → May Helper (Lane env.lane) x l → Ready env l b → Ready env (x ∷ l) b
ready_more env l x b may (inl i) = inl i
ready_more env l x b may (inr i) = inr (i.0, i.1, i.2, i.3, i.4, i.5, start_stays env.lane l x i.0 i.2 may i.6, i.7, i.8)

-- what was not refused is ready
pub ready_first : (env : Env) (l : List Record) (b : List ℕ) (o : Option Record) (m : Message) → reply env l b ≡ Reacts o m → Ready env l b
ready_first env l b o m e = go (looks env l b o m e) where
  go : Inits env l b o m ⊎ Conts env l b o m → Ready env l b
  go (inl i) = inl (i.job, i.name, i.halves, i.task, i.whole_is, i.mine, i.found)
  go (inr i) = inr (i.job, i.items, i.start, i.task, i.whole_is, i.mine, i.started, i.same, i.found)

init_answer : (env : Env) (l : List Record) (t : PlainTask) (j : JobNo) (n : List ℕ) (hs : List (Tagged Half)) (o : Option Started) → ((p : Option Record) × (m : Message) × (init_known env t j n hs o ≡ Reacts p m)) ⊎ (init_known env t j n hs o ≡ Refused JobConflict)
init_answer env l t j n hs None = inl (Some (Start j n hs), InitResp j (first_steps env.functions t n hs), refl)
init_answer env l t j n hs (Some s) = go (same_start s n hs) where
  go : (c : Bool) → ((p : Option Record) × (m : Message) × ((if c then Reacts None (InitResp j (first_steps env.functions t n hs)) else Refused JobConflict) ≡ Reacts p m)) ⊎ ((if c then Reacts None (InitResp j (first_steps env.functions t n hs)) else Refused JobConflict) ≡ Refused JobConflict)
  go true = inl (None, InitResp j (first_steps env.functions t n hs), refl)
  go false = inr refl

cont_answer : (env : Env) (l : List Record) (t : PlainTask) (j : JobNo) (s : Started) (xs : List (Tagged Step)) (o : Option (List (Tagged Outcome))) → (p : Option Record) × (m : Message) × (cont_known env l t j s xs o ≡ Reacts p m)
cont_answer env l t j s xs (Some outs) = (_, _, refl)
cont_answer env l t j s xs None = (_, _, refl)

answerable_along : (env : Env) (l : List Record) (b : List ℕ) (r : Reacted) → reply env l b ≡ r → ((p : Option Record) × (m : Message) × (r ≡ Reacts p m)) ⊎ (r ≡ Refused JobConflict) → IsAnswerable env l b
answerable_along env l b r e (inl w) = inl (w.0, w.1, e ∙ w.2)
answerable_along env l b r e (inr no_more) = inr (e ∙ no_more)

pub ready_is : (env : Env) (l : List Record) (b : List ℕ) → Ready env l b → IsAnswerable env l b
ready_is env l b (inl (j, n, hs, t, w, mine, found)) =
    answerable_along env l b (init_known env t j n hs (first (start_if j) l))
    (ap (λ (r : Result Message ℕ). reply_to env l b r) w
    ∙ ap (λ (c : Bool). if c then init_under env l j n hs (find (has_name n) env.tasks) else Refused WrongLane) mine
    ∙ ap (λ (o : Option PlainTask). init_under env l j n hs o) found)
    (init_answer env l t j n hs (first (start_if j) l))
ready_is env l b (inr (j, xs, s, t, w, mine, started, same, found)) =
    answerable_along env l b (cont_known env l t j s xs (first (commit_if j) l))
    (ap (λ (r : Result Message ℕ). reply_to env l b r) w
    ∙ ap (λ (c : Bool). if c then cont_started env l j xs (first (start_if j) l) else Refused WrongLane) mine
    ∙ ap (λ (o : Option Started). cont_started env l j xs o) started
    ∙ ap (λ (c : Bool). if c then cont_under env l j s xs (find (has_name s.name) env.tasks) else Refused ReportsDiffer) same
    ∙ ap (λ (o : Option PlainTask). cont_under env l j s xs o) found)
    (inl (cont_answer env l t j s xs (first (commit_if j) l)))
