-- What a reply rests on.
use Rattle.std.proofs.Common.{◌≡◌, ◌⊎◌, inl, inr, ℕ, Bool, true, false, List, Option, Some, None, Result, Ok, Err, refl, sym}
use Rattle.std.specs.Prelude.{if◌then◌else◌}
use Rattle.std.specs.List.{find}
use Rattle.dap_messages.specs.declared.job.JobNo.{JobNo}
use Rattle.dap_messages.specs.declared.body.Half.{Half}
use Rattle.dap_messages.specs.declared.body.Step.{Step}
use Rattle.dap_messages.specs.declared.item.Tagged.{Tagged}
use Rattle.dap_messages.specs.declared.message.Message.{Message}
use Rattle.dap_messages.specs.declared.message.Message.TheVariants.{InitReq, InitResp, ContReq, ContResp}
use Rattle.dap_messages.specs.Grammar.{whole}
use Rattle.dap_messages.specs.Messages.{message}
use Rattle.dap_tasks.specs.Task.{PlainTask, has_name}
use Rattle.lane_records.specs.declared.outcome.Outcome.{Outcome}
use Rattle.lane_records.specs.declared.record.Record.{Record}
use Rattle.lane_records.specs.declared.record.Record.TheVariants.{Start, Commit}
use Rattle.legal_journals.specs.History.{first}
use Rattle.legal_journals.specs.HistoryTests.{same_ids}
use Rattle.helper_lane.specs.declared.refusal.TakeRefusal.TheVariants.{WrongLane, JobConflict, ReportsDiffer}
use Rattle.helper_lane.specs.Reply.{Env, Refused, Reacts, Started, start_if, commit_if, same_start, is_mine, first_steps, outcomes, told_outcomes, init_known, init_under, init_reply, cont_known, cont_under, cont_started, cont_reply, reply_to, reply}

-- an InitReq that is answered: its task, and the job's Start, if there is one, which is the request's
pub record Inits (env : Env) (l : List Record) (b : List ℕ) (o : Option Record) (m : Message) : Type 0 where
  pub job : JobNo
  pub name : List ℕ
  pub halves : List (Tagged Half)
  pub task : PlainTask
  pub whole_is : whole message b ≡ Ok (InitReq job name halves)
  pub mine : is_mine env.lanes env.lane job halves ≡ true
  pub found : find (has_name name) env.tasks ≡ Some task
  pub known : ((o ≡ Some (Start job name halves)) × (first (start_if job) l ≡ None)) ⊎ ((o ≡ None) × ((s : Started) × (first (start_if job) l ≡ Some s) × (same_start s name halves ≡ true)))
  pub says : m ≡ InitResp job (first_steps env.functions task name halves)

-- a ContReq that is answered: the job's Start, its task, and the job's Commit, if there is one
pub record Conts (env : Env) (l : List Record) (b : List ℕ) (o : Option Record) (m : Message) : Type 0 where
  pub job : JobNo
  pub items : List (Tagged Step)
  pub start : Started
  pub task : PlainTask
  pub whole_is : whole message b ≡ Ok (ContReq job items)
  pub mine : is_mine env.lanes env.lane job items ≡ true
  pub started : first (start_if job) l ≡ Some start
  pub same : same_ids start.halves items ≡ true
  pub found : find (has_name start.name) env.tasks ≡ Some task
  pub outs : List (Tagged Outcome)
  pub known : ((o ≡ Some (Commit job outs)) × (first (commit_if job) l ≡ None) × (outs ≡ outcomes env.functions task start.name l start.halves items)) ⊎ ((o ≡ None) × (first (commit_if job) l ≡ Some outs))
  pub says : m ≡ ContResp job (told_outcomes outs)

reacts_one : (o p : Option Record) (m k : Message) → Reacts o m ≡ Reacts p k → (o ≡ p) × (m ≡ k)
reacts_one o p m k e = (cc e, cc e)

module _ (env : Env) (l : List Record) (b : List ℕ) (o : Option Record) (m : Message) where
  inits_known : (j : JobNo) (n : List ℕ) (hs : List (Tagged Half)) (t : PlainTask) → whole message b ≡ Ok (InitReq j n hs) → is_mine env.lanes env.lane j hs ≡ true → find (has_name n) env.tasks ≡ Some t
      → (s : Option Started) → first (start_if j) l ≡ s → init_known env t j n hs s ≡ Reacts o m → Inits env l b o m
  inits_known j n hs t w mine found None is e =
      let p = reacts_one (Some (Start j n hs)) o (InitResp j (first_steps env.functions t n hs)) m e in
      record { job = j; name = n; halves = hs; task = t; whole_is = w; mine = mine; found = found; known = inl (sym p.0, is); says = sym p.1 }
  inits_known j n hs t w mine found (Some s) is e = go (same_start s n hs) refl e where
    go : (c : Bool) → same_start s n hs ≡ c → (if c then Reacts None (InitResp j (first_steps env.functions t n hs)) else Refused JobConflict) ≡ Reacts o m → Inits env l b o m
    go true same e =
        let p = reacts_one None o (InitResp j (first_steps env.functions t n hs)) m e in
        record { job = j; name = n; halves = hs; task = t; whole_is = w; mine = mine; found = found; known = inr (sym p.0, (s, is, same)); says = sym p.1 }
    go false same e = absurd (cc e)

  inits_under : (j : JobNo) (n : List ℕ) (hs : List (Tagged Half)) → whole message b ≡ Ok (InitReq j n hs) → is_mine env.lanes env.lane j hs ≡ true
      → (t : Option PlainTask) → find (has_name n) env.tasks ≡ t → init_under env l j n hs t ≡ Reacts o m → Inits env l b o m
  inits_under j n hs w mine None found e = absurd (cc e)
  inits_under j n hs w mine (Some t) found e = inits_known j n hs t w mine found (first (start_if j) l) refl e

  inits : (j : JobNo) (n : List ℕ) (hs : List (Tagged Half)) → whole message b ≡ Ok (InitReq j n hs) → init_reply env l j n hs ≡ Reacts o m → Inits env l b o m
  inits j n hs w e = go (is_mine env.lanes env.lane j hs) refl e where
    go : (c : Bool) → is_mine env.lanes env.lane j hs ≡ c → (if c then init_under env l j n hs (find (has_name n) env.tasks) else Refused WrongLane) ≡ Reacts o m → Inits env l b o m
    go true mine e = inits_under j n hs w mine (find (has_name n) env.tasks) refl e
    go false mine e = absurd (cc e)

  conts_known : (j : JobNo) (xs : List (Tagged Step)) (s : Started) (t : PlainTask) → whole message b ≡ Ok (ContReq j xs) → is_mine env.lanes env.lane j xs ≡ true → first (start_if j) l ≡ Some s
      → same_ids s.halves xs ≡ true → find (has_name s.name) env.tasks ≡ Some t → (c : Option (List (Tagged Outcome))) → first (commit_if j) l ≡ c → cont_known env l t j s xs c ≡ Reacts o m → Conts env l b o m
  conts_known j xs s t w mine started same found None is e =
      let outs : List (Tagged Outcome) = outcomes env.functions t s.name l s.halves xs in
      let p = reacts_one (Some (Commit j outs)) o (ContResp j (told_outcomes outs)) m e in
      record { job = j; items = xs; start = s; task = t; whole_is = w; mine = mine; started = started; same = same; found = found; outs = outs; known = inl (sym p.0, is, refl); says = sym p.1 }
  conts_known j xs s t w mine started same found (Some outs) is e =
      let p = reacts_one None o (ContResp j (told_outcomes outs)) m e in
      record { job = j; items = xs; start = s; task = t; whole_is = w; mine = mine; started = started; same = same; found = found; outs = outs; known = inr (sym p.0, is); says = sym p.1 }

  conts_under : (j : JobNo) (xs : List (Tagged Step)) (s : Started) → whole message b ≡ Ok (ContReq j xs) → is_mine env.lanes env.lane j xs ≡ true → first (start_if j) l ≡ Some s
      → same_ids s.halves xs ≡ true → (t : Option PlainTask) → find (has_name s.name) env.tasks ≡ t → cont_under env l j s xs t ≡ Reacts o m → Conts env l b o m
  conts_under j xs s w mine started same None found e = absurd (cc e)
  conts_under j xs s w mine started same (Some t) found e = conts_known j xs s t w mine started same found (first (commit_if j) l) refl e

  conts_started : (j : JobNo) (xs : List (Tagged Step)) → whole message b ≡ Ok (ContReq j xs) → is_mine env.lanes env.lane j xs ≡ true
      → (s : Option Started) → first (start_if j) l ≡ s → cont_started env l j xs s ≡ Reacts o m → Conts env l b o m
  conts_started j xs w mine None is e = absurd (cc e)
  conts_started j xs w mine (Some s) is e = go (same_ids s.halves xs) refl e where
    go : (c : Bool) → same_ids s.halves xs ≡ c → (if c then cont_under env l j s xs (find (has_name s.name) env.tasks) else Refused ReportsDiffer) ≡ Reacts o m → Conts env l b o m
    go true same e = conts_under j xs s w mine is same (find (has_name s.name) env.tasks) refl e
    go false same e = absurd (cc e)

  conts : (j : JobNo) (xs : List (Tagged Step)) → whole message b ≡ Ok (ContReq j xs) → cont_reply env l j xs ≡ Reacts o m → Conts env l b o m
  conts j xs w e = go (is_mine env.lanes env.lane j xs) refl e where
    go : (c : Bool) → is_mine env.lanes env.lane j xs ≡ c → (if c then cont_started env l j xs (first (start_if j) l) else Refused WrongLane) ≡ Reacts o m → Conts env l b o m
    go true mine e = conts_started j xs w mine (first (start_if j) l) refl e
    go false mine e = absurd (cc e)

  looks_to : (r : Result Message ℕ) → whole message b ≡ r → reply_to env l b r ≡ Reacts o m → Inits env l b o m ⊎ Conts env l b o m
  looks_to (Ok (InitReq j n hs)) w e = inl (inits j n hs w e)
  looks_to (Ok (ContReq j xs)) w e = inr (conts j xs w e)
  looks_to (Ok _) w e = absurd (cc e)
  looks_to (Err at) w e = absurd (cc e)

-- a message that is answered is an InitReq or a ContReq, and rests on this
pub looks : (env : Env) (l : List Record) (b : List ℕ) (o : Option Record) (m : Message) → reply env l b ≡ Reacts o m → Inits env l b o m ⊎ Conts env l b o m
looks env l b o m e = looks_to env l b o m (whole message b) refl e
