-- Messages by their first bytes.
use Rattle.std.proofs.Common.{◌≡◌, ◌≢◌, ℕ, ◌==◌, ◌<◌, Bool, true, false, ◌&&◌, List, [], ◌∷◌, get_or, Option, Some, None, Result, Ok, Err, refl, sym, ap, subst, ◌∙◌}
use Rattle.std.specs.Prelude.{if◌then◌else◌}
use Rattle.std.specs.List.{find}
use Rattle.std.specs.Option.{option_map}
use Rattle.std.proofs.lemmas.Slice.Eq.{bytes_eq-Decides}
use Rattle.std.proofs.lemmas.Bool.{and_parts}
use Rattle.dap_bytes.specs.Name.{IsName}
use Rattle.dap_messages.specs.declared.job.JobNo.{JobNo}
use Rattle.dap_messages.specs.declared.body.Half.{Half}
use Rattle.dap_messages.specs.declared.body.Step.{Step}
use Rattle.dap_messages.specs.declared.item.Tagged.{Tagged}
use Rattle.dap_messages.specs.declared.message.Message.{Message}
use Rattle.dap_messages.specs.declared.message.Message.TheVariants.{InitReq, InitResp, ContReq, ContResp, ShareReq, ShareResp}
use Rattle.dap_messages.specs.Forms.{job, half}
use Rattle.dap_messages.specs.Grammar.{whole, name, items}
use Rattle.dap_messages.specs.Laws.{whole_takes}
use Rattle.dap_messages.specs.MessageLaws.{message_lawful}
use Rattle.dap_messages.specs.Messages.{message, cont_req_of}
use Rattle.dap_views.specs.Whole.{request_in}
use Rattle.dap_tasks.specs.Task.{PlainTask, has_name}
use Rattle.lane_records.specs.declared.record.Record.{Record}
use Rattle.legal_journals.specs.History.{first}
use Rattle.helper_lane.specs.declared.refusal.TakeRefusal.{TakeRefusal}
use Rattle.helper_lane.specs.declared.refusal.TakeRefusal.TheVariants.{Form}
use Rattle.helper_lane.specs.Input.{Input, IsInput, is_input, cont_input, init_input, input_for, input_to, started_input}
use Rattle.helper_lane.specs.Refusals.{refusal_of}
use Rattle.helper_lane.specs.Reply.{Env, Started, cont_reply, init_reply, reply_to, reply, start_if}

-- a list is made of bytes
abbrev pub AreCells : List ℕ → Type 0
AreCells b = (i : ℕ) → get_or b i 0 < 256

module _ (b : List ℕ) (cells : AreCells b) where
  spelled : (m : Message) → whole message b ≡ Ok m → (message.allowed m ≡ true) × (b ≡ message.spell m)
  spelled m e = whole_takes message message_lawful b m cells e

  -- an InitReq is viewed as one
  pub request_is : (j : JobNo) (n : List ℕ) (hs : List (Tagged Half)) → whole message b ≡ Ok (InitReq j n hs) → request_in b ≡ Ok (InitReq j n hs)
  request_is j n hs e = let s = (spelled (InitReq j n hs) e).1 in ap request_in s ∙ ap (whole message) (sym s) ∙ e

  -- and has a name
  pub name_is : (j : JobNo) (n : List ℕ) (hs : List (Tagged Half)) → whole message b ≡ Ok (InitReq j n hs) → IsName n
  name_is j n hs e =
      let a = (spelled (InitReq j n hs) e).0 in
      let p = and_parts (job.allowed j) (name.allowed n && (items half).allowed hs) a in
      let q = and_parts (name.allowed n) ((items half).allowed hs) p.1 in
      q.0

  -- a message that begins otherwise is none
  no_init : (c : ℕ) (rest : List ℕ) → b ≡ c ∷ rest → c ≢ 1 → (j : JobNo) (n : List ℕ) (hs : List (Tagged Half)) → whole message b ≡ Ok (InitReq j n hs) → ⊥
  no_init c rest is other j n hs e = let s = (spelled (InitReq j n hs) e).1 in let same : c ≡ 1 = cc (sym is ∙ s) in other same

  no_cont : (c : ℕ) (rest : List ℕ) → b ≡ c ∷ rest → c ≢ 3 → (j : JobNo) (xs : List (Tagged Step)) → whole message b ≡ Ok (ContReq j xs) → ⊥
  no_cont c rest is other j xs e = let s = (spelled (ContReq j xs) e).1 in let same : c ≡ 3 = cc (sym is ∙ s) in other same

  three_no_one : ◌≢◌ {A = ℕ} 3 1
  three_no_one e = absurd (cc e)

  -- what begins as a ContReq and is none
  pub no_cont_req : (env : Env) (l : List Record) (rest : List ℕ) (m : Message) → b ≡ 3 ∷ rest → whole message b ≡ Ok m → cont_req_of m ≡ None → refusal_of (reply env l b) ≡ Some (Form 0)
  no_cont_req env l rest m is e none = ap (λ (r : Result Message ℕ). refusal_of (reply_to env l b r)) e ∙ go m e none where
    go : (m : Message) → whole message b ≡ Ok m → cont_req_of m ≡ None → refusal_of (reply_to env l b (Ok m)) ≡ Some (Form 0)
    go (InitReq j n hs) e none = absurd (no_init 3 rest is three_no_one j n hs e)
    go (InitResp j xs) e none = refl
    go (ContReq j xs) e none = absurd (cc none)
    go (ContResp j xs) e none = refl
    go (ShareReq q) e none = refl
    go (ShareResp a) e none = refl

  -- what begins as no request
  pub no_request : (env : Env) (l : List Record) (c : ℕ) (rest : List ℕ) → b ≡ c ∷ rest → c ≢ 1 → c ≢ 3 → (c == 1) ≡ false → (c == 3) ≡ false → refusal_of (reply env l b) ≡ Some (Form 0)
  no_request env l c rest is one three not_one not_three = go (whole message b) refl where
    go : (r : Result Message ℕ) → whole message b ≡ r → refusal_of (reply_to env l b r) ≡ Some (Form 0)
    go (Ok (InitReq j n hs)) e = absurd (no_init c rest is one j n hs e)
    go (Ok (InitResp j xs)) e = refl
    go (Ok (ContReq j xs)) e = absurd (no_cont c rest is three j xs e)
    go (Ok (ContResp j xs)) e = refl
    go (Ok (ShareReq q)) e = refl
    go (Ok (ShareResp a)) e = refl
    go (Err at) e =
        subst (λ (z : List ℕ). refusal_of (reply_to env l z (Err at)) ≡ Some (Form 0)) (sym is)
        (ap (λ (t : Bool). let o : Option TakeRefusal = Some (Form (if t then at else (if c == 3 then at else 0))) in o) not_one
        ∙ ap (λ (t : Bool). let o : Option TakeRefusal = Some (Form (if t then at else 0)) in o) not_three)

-- no bytes are no request
pub nothing_refused : (env : Env) (l : List Record) → refusal_of (reply env l []) ≡ Some (Form 0)
nothing_refused env l = refl

-- ---- what a message comes to

module _ (env : Env) (l : List Record) (b : List ℕ) where
  -- what begins as an InitReq is read as a whole
  pub whole_is : (rest : List ℕ) (r : Result Message ℕ) → b ≡ 1 ∷ rest → request_in b ≡ r → whole message b ≡ r
  whole_is rest r is e = ap (whole message) is ∙ sym (ap request_in is) ∙ e

  pub init_form : (rest : List ℕ) (at : ℕ) → b ≡ 1 ∷ rest → request_in b ≡ Err at → refusal_of (reply env l b) ≡ Some (Form at)
  init_form rest at is e =
      ap (λ (r : Result Message ℕ). refusal_of (reply_to env l b r)) (whole_is rest (Err at) is e)
      ∙ ap (λ (z : List ℕ). refusal_of (reply_to env l z (Err at))) is

  -- what is viewed as an InitReq is one, and is refused as one
  pub whole_of : (m : Message) → request_in b ≡ Ok m → whole message b ≡ Ok m
  whole_of m e = go b e where
    by_first : (first : ℕ) (rest : List ℕ) (t : Bool) → (if t then whole message (first ∷ rest) else Err 0) ≡ Ok m → whole message (first ∷ rest) ≡ Ok m
    by_first first rest true e = e
    by_first first rest false e = absurd (cc e)

    go : (c : List ℕ) → request_in c ≡ Ok m → whole message c ≡ Ok m
    go [] e = absurd (cc e)
    go (first ∷ rest) e = by_first first rest (first == 1) e

  pub viewed_refused : (j : JobNo) (n : List ℕ) (hs : List (Tagged Half)) (why : Option TakeRefusal) → request_in b ≡ Ok (InitReq j n hs) → refusal_of (init_reply env l j n hs) ≡ why → refusal_of (reply env l b) ≡ why
  viewed_refused j n hs why w e = ap (λ (r : Result Message ℕ). refusal_of (reply_to env l b r)) (whole_of (InitReq j n hs) w) ∙ e

  pub init_refused : (j : JobNo) (n : List ℕ) (hs : List (Tagged Half)) (why : TakeRefusal) → whole message b ≡ Ok (InitReq j n hs) → refusal_of (init_reply env l j n hs) ≡ Some why → refusal_of (reply env l b) ≡ Some why
  init_refused j n hs why w e = ap (λ (r : Result Message ℕ). refusal_of (reply_to env l b r)) w ∙ e

  pub init_found : (j : JobNo) (n : List ℕ) (hs : List (Tagged Half)) (t : PlainTask) → whole message b ≡ Ok (InitReq j n hs) → refusal_of (init_reply env l j n hs) ≡ None → find (has_name n) env.tasks ≡ Some t
      → (refusal_of (reply env l b) ≡ None) × (input_for env l b ≡ Some (init_input b t))
  init_found j n hs t w none found = (
    ap (λ (r : Result Message ℕ). refusal_of (reply_to env l b r)) w ∙ none,
    ap (λ (r : Result Message ℕ). input_to env l b r) w ∙ ap (λ (o : Option PlainTask). option_map (init_input b) o) found,
  )

  pub cont_form : (rest : List ℕ) (at : ℕ) → b ≡ 3 ∷ rest → whole message b ≡ Err at → refusal_of (reply env l b) ≡ Some (Form at)
  cont_form rest at is e =
      ap (λ (r : Result Message ℕ). refusal_of (reply_to env l b r)) e
      ∙ ap (λ (z : List ℕ). refusal_of (reply_to env l z (Err at))) is

  cont_is : (m : Message) (j : JobNo) (xs : List (Tagged Step)) → cont_req_of m ≡ Some (j, xs) → m ≡ ContReq j xs
  cont_is (ContReq i ys) j xs e =
      let whole_pair : (JobNo × List (Tagged Step)) = (i, ys) in
      let both : whole_pair ≡ (j, xs) = cc e in
      ap (λ (z : JobNo × List (Tagged Step)). ContReq z.0 z.1) both
  cont_is (InitReq i n hs) j xs e = absurd (cc e)
  cont_is (InitResp i ys) j xs e = absurd (cc e)
  cont_is (ContResp i ys) j xs e = absurd (cc e)
  cont_is (ShareReq q) j xs e = absurd (cc e)
  cont_is (ShareResp a) j xs e = absurd (cc e)

  pub whole_cont : (m : Message) (j : JobNo) (xs : List (Tagged Step)) → whole message b ≡ Ok m → cont_req_of m ≡ Some (j, xs) → whole message b ≡ Ok (ContReq j xs)
  whole_cont m j xs w e = w ∙ ap (λ (z : Message). let r : Result Message ℕ = Ok z in r) (cont_is m j xs e)

  pub cont_refused : (j : JobNo) (xs : List (Tagged Step)) (why : TakeRefusal) → whole message b ≡ Ok (ContReq j xs) → refusal_of (cont_reply env l j xs) ≡ Some why → refusal_of (reply env l b) ≡ Some why
  cont_refused j xs why w e = ap (λ (r : Result Message ℕ). refusal_of (reply_to env l b r)) w ∙ e

  pub cont_found : (j : JobNo) (xs : List (Tagged Step)) (i : Input) → whole message b ≡ Ok (ContReq j xs) → refusal_of (cont_reply env l j xs) ≡ None → started_input env b (first (start_if j) l) ≡ Some i
      → (refusal_of (reply env l b) ≡ None) × (input_for env l b ≡ Some i)
  cont_found j xs i w none found = (
    ap (λ (r : Result Message ℕ). refusal_of (reply_to env l b r)) w ∙ none,
    ap (λ (r : Result Message ℕ). input_to env l b r) w ∙ found,
  )

-- ---- what is handed out is an input

found_name : (n : List ℕ) (ts : List PlainTask) (t : PlainTask) → find (has_name n) ts ≡ Some t → t.name ≡ n
found_name n [] t e = absurd (cc e)
found_name n (x ∷ ts) t e = go (has_name n x) refl e (λ later. found_name n ts t later) where
  go : (b : Bool) → has_name n x ≡ b → (if b then Some x else find (has_name n) ts) ≡ Some t → (find (has_name n) ts ≡ Some t → t.name ≡ n) → t.name ≡ n
  go true is e later = let same : x ≡ t = cc e in ap (λ (z : PlainTask). z.name) (sym same) ∙ (bytes_eq-Decides x.name n).0 is
  go false is e later = later e

map_some : {A B : Type 0} (f : A → B) (o : Option A) (y : B) → option_map f o ≡ Some y → (x : A) × (o ≡ Some x) × (f x ≡ y)
map_some f None y e = absurd (cc e)
map_some f (Some x) y e = (x, refl, cc e)

pub input_is : (env : Env) (l : List Record) (b : List ℕ) (i : Input) → input_for env l b ≡ Some i → IsInput i.task b i.started
input_is env l b i e = go (whole message b) e where
  started : (j : JobNo) (xs : List (Tagged Step)) (o : Option Started) → started_input env b o ≡ Some i → is_input i.task i.started (Ok (ContReq j xs)) ≡ true
  started j xs None e = absurd (cc e)
  started j xs (Some s) e =
      let m = map_some (cont_input b s.halves) (find (has_name s.name) env.tasks) i e in
      subst (λ (z : Input). is_input z.task z.started (Ok (ContReq j xs)) ≡ true) m.2 refl

  go : (r : Result Message ℕ) → input_to env l b r ≡ Some i → is_input i.task i.started r ≡ true
  go (Ok (InitReq j n hs)) e =
      let m = map_some (init_input b) (find (has_name n) env.tasks) i e in
      subst (λ (z : Input). is_input z.task z.started (Ok (InitReq j n hs)) ≡ true) m.2 ((bytes_eq-Decides n m.0.name).1 (sym (found_name n env.tasks m.0 m.1)))
  go (Ok (ContReq j xs)) e = started j xs (first (start_if j) l) e
  go (Ok (InitResp j xs)) e = absurd (cc e)
  go (Ok (ContResp j xs)) e = absurd (cc e)
  go (Ok (ShareReq q)) e = absurd (cc e)
  go (Ok (ShareResp a)) e = absurd (cc e)
  go (Err at) e = absurd (cc e)

-- and its task is one of the lane's
pub input_task : (env : Env) (l : List Record) (b : List ℕ) (i : Input) → input_for env l b ≡ Some i → find (has_name i.task.name) env.tasks ≡ Some i.task
input_task env l b i e = go (whole message b) e where
  held : (n : List ℕ) (make : PlainTask → Input) → ((t : PlainTask) → (make t).task ≡ t) → option_map make (find (has_name n) env.tasks) ≡ Some i → find (has_name i.task.name) env.tasks ≡ Some i.task
  held n make same e =
      let m = map_some make (find (has_name n) env.tasks) i e in
      let task_is : i.task ≡ m.0 = ap (λ (z : Input). z.task) (sym m.2) ∙ same m.0 in
      subst (λ (t : PlainTask). find (has_name t.name) env.tasks ≡ Some t) (sym task_is) (ap (λ (k : List ℕ). find (has_name k) env.tasks) (found_name n env.tasks m.0 m.1) ∙ m.1)

  started : (o : Option Started) → started_input env b o ≡ Some i → find (has_name i.task.name) env.tasks ≡ Some i.task
  started None e = absurd (cc e)
  started (Some s) e = held s.name (cont_input b s.halves) (λ t. refl) e

  go : (r : Result Message ℕ) → input_to env l b r ≡ Some i → find (has_name i.task.name) env.tasks ≡ Some i.task
  go (Ok (InitReq j n hs)) e = held n (init_input b) (λ t. refl) e
  go (Ok (ContReq j xs)) e = started (first (start_if j) l) e
  go (Ok (InitResp j xs)) e = absurd (cc e)
  go (Ok (ContResp j xs)) e = absurd (cc e)
  go (Ok (ShareReq q)) e = absurd (cc e)
  go (Ok (ShareResp a)) e = absurd (cc e)
  go (Err at) e = absurd (cc e)

-- an input without halves is an InitReq of its task
pub input_init : (t : PlainTask) (r : Result Message ℕ) → is_input t None r ≡ true → (j : JobNo) × (hs : List (Tagged Half)) × (r ≡ Ok (InitReq j t.name hs))
input_init t (Ok (InitReq j n hs)) e = (j, hs, ap (λ (z : List ℕ). let r : Result Message ℕ = Ok (InitReq j z hs) in r) ((bytes_eq-Decides n t.name).0 e))
input_init t (Ok (ContReq j xs)) e = absurd (cc e)
input_init t (Ok (InitResp j xs)) e = absurd (cc e)
input_init t (Ok (ContResp j xs)) e = absurd (cc e)
input_init t (Ok (ShareReq q)) e = absurd (cc e)
input_init t (Ok (ShareResp a)) e = absurd (cc e)
input_init t (Err at) e = absurd (cc e)

-- one with halves is a ContReq
pub input_cont : (t : PlainTask) (halves : List (Tagged Half)) (r : Result Message ℕ) → is_input t (Some halves) r ≡ true → (j : JobNo) × (xs : List (Tagged Step)) × (r ≡ Ok (ContReq j xs))
input_cont t halves (Ok (ContReq j xs)) e = (j, xs, refl)
input_cont t halves (Ok (InitReq j n hs)) e = absurd (cc e)
input_cont t halves (Ok (InitResp j xs)) e = absurd (cc e)
input_cont t halves (Ok (ContResp j xs)) e = absurd (cc e)
input_cont t halves (Ok (ShareReq q)) e = absurd (cc e)
input_cont t halves (Ok (ShareResp a)) e = absurd (cc e)
input_cont t halves (Err at) e = absurd (cc e)
