-- What each call of a lane says of the states before and after it.
use Rattle.std.proofs.Common.{◌≡◌, ◌⊎◌, inl, inr, ⊎_elim, ℕ, zero, suc, ◌≤◌, List, [], ◌∷◌, ◌++◌, Bool, true, false, Option, Some, None, refl, sym, ap, subst, ◌∙◌, append_assoc, append-nil, arith}
use Rattle.std.specs.Prelude.{replicate, IsTrue, ◌↔◌, ◌<◌, Result, Ok, Err}
use Rattle.std.specs.Result.{is_ok, OnOk, OnErr}
use mathlib.Core.List.{IsPrefix}
use Rattle.dap_wire.specs.Calls.{Receives}
use Rattle.dap_wire.specs.Link.{Link}
use Rattle.lane_records.specs.declared.place.LaneFault.{LaneFault}
use Rattle.lane_records.specs.declared.place.LaneFault.TheVariants as faults
use Rattle.lane_records.specs.declared.record.Record.{Record}
use Rattle.part_journal.specs.Came.{Came, CameBy, Opens}
use Rattle.part_journal.specs.CameLaws.{came_same, came_then, came_under_way, opens_none}
use Rattle.part_journal.specs.Counts.{CountsStops}
use Rattle.part_journal.specs.declared.fault.PartFault.{PartFault}
use Rattle.part_journal.specs.Pages.{Pages, first_pages, reopened, reopening, restarts, IsBack, Opening, Restarted, UnderWay}
use Rattle.part_journal.specs.Part.{DeadWhere, PartView, SameOpening}
use Rattle.helper_lane.specs.Lane.{HelperView, IsAwake, IsHalted, Grows, env}
use Rattle.helper_lane.specs.Own.{Goes, opener_of}
use Rattle.std.specs.declared.alloc.AllocError.{AllocError}
use Rattle.dap_wire.specs.declared.recv.Recv.{Recv}
use Rattle.dap_wire.specs.declared.recv.Recv.TheVariants as recvs
use Rattle.helper_lane.specs.declared.refusal.TakeFault.{TakeFault}
use Rattle.helper_lane.specs.declared.refusal.TakeFault.TheVariants as takes
use Rattle.helper_lane.specs.declared.taken.Taken.{Taken}
use Rattle.helper_lane.specs.declared.taken.Taken.TheVariants as taken
use Rattle.helper_lane.specs.declared.work.HelperWork.{HelperWork}
use Rattle.std.specs.List.{find}
use Rattle.dap_tasks.specs.Task.{has_name}
use Rattle.helper_lane.specs.Takes.{Takes}
use Rattle.helper_lane.specs.Work.{input_of}
use Rattle.helper_lane.specs.Ready.{Ready}
use Rattle.helper_lane.specs.Refusals.{refusal_of}
use Rattle.helper_lane.specs.Reply.{Env, Reacted, Refused, Reacts, reply}
use Rattle.helper_lane.specs.Replies.{IsEnv}
use Rattle.helper_lane.proofs.Moves.{goes_back, goes_under}
use Rattle.helper_lane.proofs.Ready.{ready_first}
use Rattle.helper_lane.proofs.Requests.{input_task}

-- a message that isn't refused is a request that the lane answers
pub unrefused : (env : Env) (l : List Record) (b : List ℕ) → refusal_of (reply env l b) ≡ None → Ready env l b
unrefused env l b none = go (reply env l b) refl none where
  go : (r : Reacted) → reply env l b ≡ r → refusal_of r ≡ None → Ready env l b
  go (Refused why) e none = absurd (cc none)
  go (Reacts o m) e none = ready_first env l b o m e

-- what a take leaves in hand
pub takes_hand : (env : Env) (l : List Record) (got : Result Recv AllocError) (r : Result Taken TakeFault) (old new : List (List ℕ)) → Takes env l got r old new
    → (new ≡ old) ⊎ ((b : List ℕ) × (got ≡ Ok (recvs.Message b)) × (refusal_of (reply env l b) ≡ None) × (new ≡ old ++ b ∷ []))
takes_hand env l (Ok (recvs.Message b)) (Ok (taken.Work w)) old new t = inr (b, refl, t.0, t.2)
takes_hand env l (Ok (recvs.Message b)) (Ok taken.Nothing) old new t = absurd t
takes_hand env l (Ok (recvs.Message b)) (Ok taken.Dropped) old new t = absurd t
takes_hand env l (Ok (recvs.Message b)) (Ok taken.Held) old new t = absurd t
takes_hand env l (Ok (recvs.Message b)) (Err (takes.Refused why)) old new t = inl t.1
takes_hand env l (Ok (recvs.Message b)) (Err (takes.Lane fault)) old new t = inl t.1
takes_hand env l (Ok recvs.Empty) (Ok taken.Nothing) old new t = inl t
takes_hand env l (Ok recvs.Empty) (Ok (taken.Work w)) old new t = absurd t
takes_hand env l (Ok recvs.Empty) (Ok taken.Dropped) old new t = absurd t
takes_hand env l (Ok recvs.Empty) (Ok taken.Held) old new t = absurd t
takes_hand env l (Ok recvs.Empty) (Err e) old new t = absurd t
takes_hand env l (Ok recvs.Dropped) (Ok taken.Dropped) old new t = inl t
takes_hand env l (Ok recvs.Dropped) (Ok (taken.Work w)) old new t = absurd t
takes_hand env l (Ok recvs.Dropped) (Ok taken.Nothing) old new t = absurd t
takes_hand env l (Ok recvs.Dropped) (Ok taken.Held) old new t = absurd t
takes_hand env l (Ok recvs.Dropped) (Err e) old new t = absurd t
takes_hand env l (Ok recvs.Held) (Ok taken.Held) old new t = inl t
takes_hand env l (Ok recvs.Held) (Ok (taken.Work w)) old new t = absurd t
takes_hand env l (Ok recvs.Held) (Ok taken.Nothing) old new t = absurd t
takes_hand env l (Ok recvs.Held) (Ok taken.Dropped) old new t = absurd t
takes_hand env l (Ok recvs.Held) (Err e) old new t = absurd t
takes_hand env l (Err e) (Err (takes.Lane fault)) old new t = inl t.1
takes_hand env l (Err e) (Err (takes.Refused why)) old new t = absurd t
takes_hand env l (Err e) (Ok answer) old new t = absurd t

-- the task of the work is one of the lane's
pub takes_held : (env : Env) (l : List Record) (got : Result Recv AllocError) (r : Result Taken TakeFault) (old new : List (List ℕ)) (w : HelperWork) → Takes env l got r old new → r ≡ Ok (taken.Work w)
    → find (has_name w.task.name) env.tasks ≡ Some w.task
takes_held env l (Ok (recvs.Message b)) (Ok (taken.Work v)) old new w t e =
    let same : v ≡ w = cc e in
    subst (λ (z : HelperWork). find (has_name z.task.name) env.tasks ≡ Some z.task) same (input_task env l b (input_of v) t.1)
takes_held env l (Ok recvs.Empty) (Ok (taken.Work v)) old new w t e = absurd t
takes_held env l (Ok recvs.Dropped) (Ok (taken.Work v)) old new w t e = absurd t
takes_held env l (Ok recvs.Held) (Ok (taken.Work v)) old new w t e = absurd t
takes_held env l (Err failed) (Ok (taken.Work v)) old new w t e = absurd t
takes_held env l got (Ok taken.Nothing) old new w t e = absurd (cc e)
takes_held env l got (Ok taken.Dropped) old new w t e = absurd (cc e)
takes_held env l got (Ok taken.Held) old new w t e = absurd (cc e)
takes_held env l got (Err fault) old new w t e = absurd (cc e)

-- ---- journals

pub prefix_same : {A : Type 0} (xs ys : List A) → ys ≡ xs → IsPrefix xs ys
prefix_same xs ys e = ([], append-nil xs ∙ sym e)

opens_prefix : {A : Type 0} (x : A) (xs ys : List A) → Opens x xs ys → IsPrefix xs ys
opens_prefix x xs ys (n, e) = (replicate n x, sym e)

came_by : (x : Record) (p q : Pages Record) (f g : Option Bool) → CameBy x p q f g → IsPrefix p.records q.records
came_by x p q None None by = prefix_same p.records q.records by.0
came_by x p q None (Some true) (n, e) = (p.block ++ replicate n x, sym (append_assoc p.records p.block (replicate n x)) ∙ sym e)
came_by x p q None (Some false) by = opens_prefix x p.records q.records by
came_by x p q (Some was) None by = absurd by
came_by x p q (Some was) (Some now) by = opens_prefix x p.records q.records by.1

-- records only grow
pub came_prefix : (x : Record) (p q : Pages Record) → Came x p q → IsPrefix p.records q.records
came_prefix x p q c = came_by x p q p.fate q.fate c.by

-- an opening that was refused
pub came_opening : (x : Record) (xs : List Record) (q : Pages Record) → Opening x (first_pages xs) q → Came x (first_pages xs) q
came_opening x xs q (inl e) = subst (λ (z : Pages Record). Came x (first_pages xs) z) (sym e) (first_is_idle x xs) where
  first_is_idle : (x : Record) (xs : List Record) → Came x (first_pages xs) (first_pages xs)
  first_is_idle x xs = came_same x (first_pages xs) (λ b f. inl refl)
came_opening x xs q (inr under) =
    let p : Pages Record = first_pages xs in
    let begins : Came x p (reopening x p) = record { by = (refl, opens_none x xs); idle = λ b f. inr refl } in
    came_then x p (reopening x p) q begins (came_under_way x (reopening x p) q begins.idle under)

-- a restart, whatever it answers
pub goes_restarted : (env : Env) → IsEnv env → (heard : List ℕ → Type 0) (x : Record) (p q : Pages Record) → x ≡ opener_of env
    → (((kept : Bool) × Restarted x kept p q) ⊎ UnderWay x p q) → Goes env heard p q
goes_restarted env is heard x p q e (inl (kept, (more, back))) =
    subst (λ (z : Pages Record). Goes env heard p z) (sym (back ∙ ap (λ (o : Record). reopened (restarts o (kept ∷ more) p)) e)) (goes_back env is heard kept more p)
goes_restarted env is heard x p q e (inr under) = goes_under env is heard p q (subst (λ (o : Record). UnderWay o p q) e under)

-- behind it the journal has nothing in hand, and an Open stands
pub restarted_rest : (x : Record) (kept : Bool) (p q : Pages Record) → Restarted x kept p q → (q.block ≡ []) × (q.opened ≡ true)
restarted_rest x kept p q (more, back) = (ap (λ (z : Pages Record). z.block) back, ap (λ (z : Pages Record). z.opened) back)

pub back_rest : (x : Record) (p q : Pages Record) → IsBack x p q → (q.block ≡ []) × (q.opened ≡ true)
back_rest x p q (more, back) = (ap (λ (z : Pages Record). z.block) back, ap (λ (z : Pages Record). z.opened) back)

-- ---- what a restart answers

pub either_way : (A B : Type 0) {R U X E : Type 0} (back : Result X E) → OnOk back (A × R) → OnErr back (B × U) → R ⊎ U
either_way A B (Ok x) ok err = inl ok.1
either_way A B (Err e) ok err = inr err.1

not_true : (b : Bool) → (IsTrue b → ⊥) → b ≡ false
not_true true h = absurd (h refl)
not_true false h = refl

-- the lane takes calls where its journal came back and its records were entered
pub awake_again : {D K : Type 0} (x : Record) (p : Pages Record) (q : PartView D Record) (back : Result (Unit {0}) PartFault) (outcome : Result (Unit {0}) LaneFault) (up stopped : Bool)
    → up ≡ is_ok outcome → (IsTrue stopped ↔ (outcome ≡ Err faults.Stopped)) → OnOk outcome ((back ≡ Ok tt) × K) → OnOk back (IsTrue q.up × ((kept : Bool) × Restarted x kept p q.pages))
    → IsTrue up → IsAwake q stopped × K
awake_again {D} {K} x p q back (Ok tt) up stopped is told ok came on =
    let b = subst (λ (r : Result (Unit {0}) PartFault). OnOk r (IsTrue q.up × ((kept : Bool) × Restarted x kept p q.pages))) ok.0 came in
    let rest = restarted_rest x b.1.0 p q.pages b.1.1 in
    (record { up = b.0; block = rest.0; opened = rest.1; calm = not_true stopped (λ s. let e = told.0 s in absurd (cc e)) }, ok.1)
awake_again x p q back (Err e) up stopped is told ok came on = let no : false ≡ true = sym is ∙ on in absurd (cc no)

-- a lane that answered `Stopped` is halted
pub halted_by : {D : Type 0} (stopped : Type 0) (v q : PartView D Record) → DeadWhere stopped v q → stopped → IsHalted q
halted_by stopped v q dead s = go q.left dead.1 where
  go : (n : ℕ) → (IsTrue v.dead ⊎ (stopped × (0 < n)) → IsTrue q.dead) → IsTrue q.dead ⊎ (n ≡ 0)
  go zero h = inr refl
  go (suc n) h = inl (h (inr (s, omega arith)))

-- the counts of a call, for another word of what it answers
pub counts_along : {D : Type 0} (downs deads : D → ℕ) (A B : Type 0) (a b : ℕ) (old new : D) → (B ↔ A) → CountsStops downs deads A a b old new → CountsStops downs deads B a b old new
counts_along downs deads A B a b old new same c = record {
  used = c.used;
  stops = c.stops;
  deaths = record {
    never_falls = c.deaths.never_falls;
    rises_by_one_at_most = c.deaths.rises_by_one_at_most;
    answered = λ s. c.deaths.answered (same.0 s.0, s.1);
    calm = ⊎_elim (λ s. inl (same.1 s.0, s.1)) (λ e. inr e) c.deaths.calm;
  };
  borne = ⊎_elim (λ s. inl (same.1 s)) (λ some. inr some) c.borne;
}

-- ---- lanes

module _ {D T : Type 0} (downs deads : D → ℕ) (drops : T → ℕ) where
  -- a call that may receive
  pub grows_received : (v : HelperView D T) (link : Link T) (hand : List (List ℕ)) → Receives v.link link → IsPrefix v.link.received link.received → drops v.link.fates ≤ drops link.fates
      → Grows downs deads drops v (record v { link = link; hand = hand })
  grows_received v link hand r received later = record {
    tasks = refl;
    place = refl;
    opening = (refl, refl);
    end = r.end;
    records = prefix_same v.part.pages.records v.part.pages.records refl;
    sent = prefix_same v.link.sent link.sent r.sent;
    received = received;
    stops = omega arith;
    deaths = omega arith;
    lost = later;
  }

  -- a call that moves the journal alone
  pub grows_moved : (v : HelperView D T) (q : PartView D Record) (hand : List (List ℕ)) (up stopped : Bool) → SameOpening v.part q → IsPrefix v.part.pages.records q.pages.records
      → downs v.part.disk ≤ downs q.disk → deads v.part.disk ≤ deads q.disk → Grows downs deads drops v (record v { part = q; hand = hand; up = up; stopped = stopped })
  grows_moved v q hand up stopped same records stops dead = record {
    tasks = refl;
    place = refl;
    opening = same;
    end = record { out = refl; into = refl; made = refl };
    records = records;
    sent = prefix_same v.link.sent v.link.sent refl;
    received = prefix_same v.link.received v.link.received refl;
    stops = stops;
    deaths = dead;
    lost = omega arith;
  }
