-- Opens change no reply, and a message once more gets the same reply.
use Rattle.std.proofs.Common.{◌≡◌, ◌⊎◌, inl, inr, ℕ, ◌==◌, Bool, true, false, ◌&&◌, ◌||◌, List, [], ◌∷◌, Option, Some, None, Result, Ok, Err, refl, sym, ap, subst, ◌∙◌, bytes_eq}
use Rattle.std.specs.Prelude.{if◌then◌else◌}
use Rattle.std.specs.Option.{option_or}
use Rattle.std.specs.List.{find, list_any}
use Rattle.std.specs.Cmp.Lexicographic.{pointwise}
use Rattle.std.proofs.lemmas.Bool.{and_from}
use Rattle.std.proofs.lemmas.Bool.Decides.{Decides-eqb}
use Rattle.std.proofs.lemmas.Slice.Eq.{bytes_eq-Decides}
use Rattle.dap_batch.specs.Group.{batch_start}
use Rattle.vdaf_api.specs.declared.kind.Kind.{Kind}
use Rattle.vdaf_api.specs.Functions.{Functions}
use Rattle.dap_messages.specs.declared.job.JobNo.{JobNo}
use Rattle.dap_messages.specs.declared.body.Half.{Half}
use Rattle.dap_messages.specs.declared.body.Step.{Step}
use Rattle.dap_messages.specs.declared.item.Tagged.{Tagged}
use Rattle.dap_messages.specs.declared.message.Message.{Message}
use Rattle.dap_messages.specs.declared.message.Message.TheVariants.{InitReq, InitResp, ContReq, ContResp}
use Rattle.dap_messages.specs.Grammar.{whole}
use Rattle.dap_messages.specs.Messages.{message}
use Rattle.dap_tasks.specs.Task.{PlainTask, has_name}
use Rattle.lane_records.specs.declared.outcome.Outcome.{Outcome}
use Rattle.lane_records.specs.declared.outcome.Outcome.TheVariants.{Finished, Failed}
use Rattle.lane_records.specs.declared.record.Record.{Record}
use Rattle.lane_records.specs.declared.record.Record.TheVariants.{Start, Commit, HelperClose}
use Rattle.legal_journals.specs.History.{first}
use Rattle.legal_journals.specs.HistoryTests.{is_open, same_ids}
use Rattle.legal_journals.specs.LaneTests.{was_finished, helper_closes, finishes, commits_report, starts_under}
use Rattle.helper_lane.specs.Reply.{Env, Reacted, Refused, Reacts, Started, start_if, commit_if, same_half, same_start, is_mine, first_steps, by_records, if_new, prepared_outcome, outcomes, outcome_of, told_outcomes, init_known, init_under, cont_known, cont_under, cont_started, reply_to, reply, unless, quiet}
use Rattle.helper_lane.specs.declared.refusal.TakeRefusal.TheVariants.{WrongLane, JobConflict, ReportsDiffer}
use Rattle.helper_lane.proofs.Members.{start_shown, commit_shown}
use Rattle.helper_lane.proofs.Rests.{Inits, Conts, looks}

-- ---- an Open is no other record

open_start : (j : JobNo) (x : Record) → is_open x ≡ true → start_if j x ≡ None
open_start j (Start job n hs) e = absurd (cc e)
open_start j _ e = refl

open_commit : (j : JobNo) (x : Record) → is_open x ≡ true → commit_if j x ≡ None
open_commit j (Commit job outs) e = absurd (cc e)
open_commit j _ e = refl

open_closes : (n : List ℕ) (s : ℕ) (x : Record) → is_open x ≡ true → helper_closes n s x ≡ false
open_closes n s (HelperClose name start c) e = absurd (cc e)
open_closes n s _ e = refl

open_commits : (n id : List ℕ) (l : List Record) (x : Record) → is_open x ≡ true → commits_report n id l x ≡ false
open_commits n id l (Commit job outs) e = absurd (cc e)
open_commits n id l _ e = refl

open_under : (n : List ℕ) (j : JobNo) (x : Record) → is_open x ≡ true → starts_under n j x ≡ false
open_under n j (Start job name hs) e = absurd (cc e)
open_under n j _ e = refl

first_quiet : {B : Type 0} (f : Record → Option B) → ((x : Record) → is_open x ≡ true → f x ≡ None) → (l : List Record) → first f (quiet l) ≡ first f l
first_quiet f none [] = refl
first_quiet {B} f none (x ∷ l) = go (is_open x) refl (first_quiet f none l) where
  go : (b : Bool) → is_open x ≡ b → first f (quiet l) ≡ first f l → first f (unless b x (quiet l)) ≡ option_or (f x) (first f l)
  go true e same = let no = none x e in same ∙ sym (ap (λ (o : Option B). option_or o (first f l)) no)
  go false e same = ap (λ (o : Option B). option_or (f x) o) same

any_quiet : (p : Record → Bool) → ((x : Record) → is_open x ≡ true → p x ≡ false) → (l : List Record) → list_any p (quiet l) ≡ list_any p l
any_quiet p none [] = refl
any_quiet p none (x ∷ l) = go (is_open x) refl (any_quiet p none l) where
  go : (b : Bool) → is_open x ≡ b → list_any p (quiet l) ≡ list_any p l → list_any p (unless b x (quiet l)) ≡ (p x || list_any p l)
  go true e same = let no = none x e in same ∙ sym (ap (λ (b : Bool). b || list_any p l) no)
  go false e same = ap (λ (b : Bool). p x || b) same

pub any_same : (p q : Record → Bool) → ((x : Record) → p x ≡ q x) → (l : List Record) → list_any p l ≡ list_any q l
any_same p q same [] = refl
any_same p q same (x ∷ l) = let a = same x in let b = any_same p q same l in cc

commits_quiet : (n id : List ℕ) (l : List Record) (x : Record) → commits_report n id (quiet l) x ≡ commits_report n id l x
commits_quiet n id l (Commit job outs) = ap (λ (b : Bool). finishes id outs && b) (any_quiet (starts_under n job) (open_under n job) l)
commits_quiet n id l _ = refl

was_quiet : (n id : List ℕ) (l : List Record) → was_finished n id (quiet l) ≡ was_finished n id l
was_quiet n id l = any_same (commits_report n id (quiet l)) (commits_report n id l) (commits_quiet n id l) (quiet l) ∙ any_quiet (commits_report n id l) (open_commits n id l) l

-- ---- the outcomes

pub records_quiet : (t : PlainTask) (n : List ℕ) (h : Tagged Half) (l k : List Record) → ((s : ℕ) → list_any (helper_closes n s) k ≡ list_any (helper_closes n s) l) → was_finished n h.id k ≡ was_finished n h.id l
    → (o : Outcome) → by_records t n h k o ≡ by_records t n h l o
records_quiet t n h l k closes was (Finished out) =
    ap (λ (b : Bool). if_new b (was_finished n h.id k) out) (closes (batch_start h.body.time t.precision)) ∙ ap (λ (b : Bool). if_new (list_any (helper_closes n (batch_start h.body.time t.precision)) l) b out) was
records_quiet t n h l k closes was (Failed c) = refl

pub outcomes_same : (f : Kind → Functions) (t : PlainTask) (n : List ℕ) (l k : List Record) → ((s : ℕ) → list_any (helper_closes n s) k ≡ list_any (helper_closes n s) l) → ((id : List ℕ) → was_finished n id k ≡ was_finished n id l)
    → (hs : List (Tagged Half)) (xs : List (Tagged Step)) → outcomes f t n k hs xs ≡ outcomes f t n l hs xs
outcomes_same f t n l k closes was [] xs = refl
outcomes_same f t n l k closes was (h ∷ hs) [] = refl
outcomes_same f t n l k closes was (h ∷ hs) (x ∷ xs) =
    ap (λ (o : Outcome). let y : Tagged Outcome = record { id = h.id; body = o } in y ∷ outcomes f t n k hs xs) (records_quiet t n h l k closes (was h.id) (prepared_outcome f t n h x.body))
    ∙ ap (λ (os : List (Tagged Outcome)). outcome_of f t n l h x.body ∷ os) (outcomes_same f t n l k closes was hs xs)

-- ---- the reply, of two lists of records with the same lookups

pub record SameLooks (k l : List Record) : Type 0 where
  pub starts : (j : JobNo) → first (start_if j) k ≡ first (start_if j) l
  pub commits : (j : JobNo) → first (commit_if j) k ≡ first (commit_if j) l
  pub closes : (n : List ℕ) (s : ℕ) → list_any (helper_closes n s) k ≡ list_any (helper_closes n s) l
  pub was : (n id : List ℕ) → was_finished n id k ≡ was_finished n id l

module _ (env : Env) (k l : List Record) (same : SameLooks k l) where
  known_same : (t : PlainTask) (j : JobNo) (s : Started) (xs : List (Tagged Step)) (o : Option (List (Tagged Outcome))) → cont_known env k t j s xs o ≡ cont_known env l t j s xs o
  known_same t j s xs (Some outs) = refl
  known_same t j s xs None =
      ap (λ (os : List (Tagged Outcome)). Reacts (Some (Commit j os)) (ContResp j (told_outcomes os))) (outcomes_same env.functions t s.name l k (same.closes s.name) (same.was s.name) s.halves xs)

  under_same : (j : JobNo) (s : Started) (xs : List (Tagged Step)) (t : Option PlainTask) → cont_under env k j s xs t ≡ cont_under env l j s xs t
  under_same j s xs None = refl
  under_same j s xs (Some t) = ap (λ (o : Option (List (Tagged Outcome))). cont_known env k t j s xs o) (same.commits j) ∙ known_same t j s xs (first (commit_if j) l)

  started_same : (j : JobNo) (xs : List (Tagged Step)) (o : Option Started) → cont_started env k j xs o ≡ cont_started env l j xs o
  started_same j xs None = refl
  started_same j xs (Some s) = ap (λ (r : Reacted). if same_ids s.halves xs then r else Refused ReportsDiffer) (under_same j s xs (find (has_name s.name) env.tasks))

  init_same : (j : JobNo) (n : List ℕ) (hs : List (Tagged Half)) (t : Option PlainTask) → init_under env k j n hs t ≡ init_under env l j n hs t
  init_same j n hs None = refl
  init_same j n hs (Some t) = ap (λ (o : Option Started). init_known env t j n hs o) (same.starts j)

  to_same : (b : List ℕ) (r : Result Message ℕ) → reply_to env k b r ≡ reply_to env l b r
  to_same b (Ok (InitReq j n hs)) = ap (λ (r : Reacted). if is_mine env.lanes env.lane j hs then r else Refused WrongLane) (init_same j n hs (find (has_name n) env.tasks))
  to_same b (Ok (ContReq j xs)) =
      ap (λ (r : Reacted). if is_mine env.lanes env.lane j xs then r else Refused WrongLane)
      (ap (λ (o : Option Started). cont_started env k j xs o) (same.starts j) ∙ started_same j xs (first (start_if j) l))
  to_same b (Ok _) = refl
  to_same b (Err at) = refl

pub reply_same : (env : Env) (k l : List Record) → SameLooks k l → (b : List ℕ) → reply env k b ≡ reply env l b
reply_same env k l same b = to_same env k l same b (whole message b)

pub looks_quiet : (l : List Record) → SameLooks (quiet l) l
looks_quiet l = record {
  starts = λ j. first_quiet (start_if j) (open_start j) l;
  commits = λ j. first_quiet (commit_if j) (open_commit j) l;
  closes = λ n s. any_quiet (helper_closes n s) (open_closes n s) l;
  was = λ n id. was_quiet n id l;
}

pub reply_quiet : (env : Env) (l : List Record) (b : List ℕ) → reply env (quiet l) b ≡ reply env l b
reply_quiet env l b = reply_same env (quiet l) l (looks_quiet l) b

-- ---- once more

same_bytes : (x : List ℕ) → bytes_eq x x ≡ true
same_bytes x = (bytes_eq-Decides x x).1 refl

same_number : (n : ℕ) → (n == n) ≡ true
same_number n = let d = Decides-eqb n n in d.1 refl

half_self : (h : Tagged Half) → same_half h h ≡ true
half_self h =
    and_from (bytes_eq h.id h.id) (h.body.time == h.body.time && (bytes_eq h.body.public h.body.public && bytes_eq h.body.helper h.body.helper)) (same_bytes h.id)
    (and_from (h.body.time == h.body.time) (bytes_eq h.body.public h.body.public && bytes_eq h.body.helper h.body.helper) (same_number h.body.time)
    (and_from (bytes_eq h.body.public h.body.public) (bytes_eq h.body.helper h.body.helper) (same_bytes h.body.public) (same_bytes h.body.helper)))

halves_self : (hs : List (Tagged Half)) → pointwise same_half hs hs ≡ true
halves_self [] = refl
halves_self (h ∷ hs) = and_from (same_half h h) (pointwise same_half hs hs) (half_self h) (halves_self hs)

start_self : (n : List ℕ) (hs : List (Tagged Half)) → same_start (record { name = n; halves = hs }) n hs ≡ true
start_self n hs = and_from (bytes_eq n n) (pointwise same_half hs hs) (same_bytes n) (halves_self hs)

module _ (env : Env) (l : List Record) (b : List ℕ) where
  init_back : (j : JobNo) (n : List ℕ) (hs : List (Tagged Half)) (t : PlainTask) (s : Started) → whole message b ≡ Ok (InitReq j n hs) → is_mine env.lanes env.lane j hs ≡ true → find (has_name n) env.tasks ≡ Some t
      → first (start_if j) l ≡ Some s → same_start s n hs ≡ true → reply env l b ≡ Reacts None (InitResp j (first_steps env.functions t n hs))
  init_back j n hs t s w mine found started same =
      ap (λ (r : Result Message ℕ). reply_to env l b r) w
      ∙ ap (λ (c : Bool). if c then init_under env l j n hs (find (has_name n) env.tasks) else Refused WrongLane) mine
      ∙ ap (λ (o : Option PlainTask). init_under env l j n hs o) found
      ∙ ap (λ (o : Option Started). init_known env t j n hs o) started
      ∙ ap (λ (c : Bool). if c then Reacts None (InitResp j (first_steps env.functions t n hs)) else Refused JobConflict) same

  cont_back : (j : JobNo) (xs : List (Tagged Step)) (s : Started) (t : PlainTask) (outs : List (Tagged Outcome)) → whole message b ≡ Ok (ContReq j xs) → is_mine env.lanes env.lane j xs ≡ true → first (start_if j) l ≡ Some s
      → same_ids s.halves xs ≡ true → find (has_name s.name) env.tasks ≡ Some t → first (commit_if j) l ≡ Some outs → reply env l b ≡ Reacts None (ContResp j (told_outcomes outs))
  cont_back j xs s t outs w mine started same found committed =
      ap (λ (r : Result Message ℕ). reply_to env l b r) w
      ∙ ap (λ (c : Bool). if c then cont_started env l j xs (first (start_if j) l) else Refused WrongLane) mine
      ∙ ap (λ (o : Option Started). cont_started env l j xs o) started
      ∙ ap (λ (c : Bool). if c then cont_under env l j s xs (find (has_name s.name) env.tasks) else Refused ReportsDiffer) same
      ∙ ap (λ (o : Option PlainTask). cont_under env l j s xs o) found
      ∙ ap (λ (o : Option (List (Tagged Outcome))). cont_known env l t j s xs o) committed

repeat_init : (env : Env) (l : List Record) (b : List ℕ) (x : Record) (m : Message) → Inits env l b (Some x) m → reply env (x ∷ l) b ≡ Reacts None m
repeat_init env l b x m i = go i.known where
  go : ((Some x ≡ Some (Start i.job i.name i.halves)) × (first (start_if i.job) l ≡ None)) ⊎ ((Some x ≡ None) × ((s : Started) × (first (start_if i.job) l ≡ Some s) × (same_start s i.name i.halves ≡ true))) → reply env (x ∷ l) b ≡ Reacts None m
  go (inl new) =
      let same : x ≡ Start i.job i.name i.halves = cc new.0 in
      let s : Started = record { name = i.name; halves = i.halves } in
      let started : first (start_if i.job) (Start i.job i.name i.halves ∷ l) ≡ Some s = ap (λ (o : Option Started). option_or o (first (start_if i.job) l)) (start_shown i.job i.name i.halves) in
      subst (λ (z : Record). reply env (z ∷ l) b ≡ Reacts None m) (sym same)
      (init_back env (Start i.job i.name i.halves ∷ l) b i.job i.name i.halves i.task s i.whole_is i.mine i.found started (start_self i.name i.halves) ∙ ap (λ (z : Message). Reacts None z) (sym i.says))
  go (inr old) = absurd (cc old.0)

repeat_cont : (env : Env) (l : List Record) (b : List ℕ) (x : Record) (m : Message) → Conts env l b (Some x) m → reply env (x ∷ l) b ≡ Reacts None m
repeat_cont env l b x m i = go i.known where
  go : ((Some x ≡ Some (Commit i.job i.outs)) × (first (commit_if i.job) l ≡ None) × (i.outs ≡ outcomes env.functions i.task i.start.name l i.start.halves i.items)) ⊎ ((Some x ≡ None) × (first (commit_if i.job) l ≡ Some i.outs)) → reply env (x ∷ l) b ≡ Reacts None m
  go (inl new) =
      let same : x ≡ Commit i.job i.outs = cc new.0 in
      let committed : first (commit_if i.job) (Commit i.job i.outs ∷ l) ≡ Some i.outs = ap (λ (o : Option (List (Tagged Outcome))). option_or o (first (commit_if i.job) l)) (commit_shown i.job i.outs) in
      subst (λ (z : Record). reply env (z ∷ l) b ≡ Reacts None m) (sym same)
      (cont_back env (Commit i.job i.outs ∷ l) b i.job i.items i.start i.task i.outs i.whole_is i.mine i.started i.same i.found committed ∙ ap (λ (z : Message). Reacts None z) (sym i.says))
  go (inr old) = absurd (cc old.0)

pub reply_repeats : (env : Env) (l : List Record) (b : List ℕ) (x : Record) (m : Message) → reply env l b ≡ Reacts (Some x) m → reply env (x ∷ l) b ≡ Reacts None m
reply_repeats env l b x m e = go (looks env l b (Some x) m e) where
  go : Inits env l b (Some x) m ⊎ Conts env l b (Some x) m → reply env (x ∷ l) b ≡ Reacts None m
  go (inl i) = repeat_init env l b x m i
  go (inr i) = repeat_cont env l b x m i
