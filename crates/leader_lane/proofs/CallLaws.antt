-- The calls of a lane.
use Rattle.std.proofs.Common.{◌≡◌, ◌≢◌, ◌⊎◌, inl, inr, ⊎_elim, ◌↔◌, ℕ, zero, suc, ◌+◌, ◌≤◌, ◌<◌, List, [], ◌∷◌, ◌++◌, length, take, drop, min, max, leb, reverse, Bool, true, false, Option, Some, None, Ok, Err, refl, sym, ap, subst, ◌∙◌, append-nil, append_assoc, arith}
use Rattle.std.specs.Prelude.{IsTrue, OnOk, OnErr, Result}
use Rattle.std.specs.List.{list_all}
use Rattle.std.specs.declared.alloc.AllocError.{AllocError}
use Rattle.std.proofs.lemmas.Bool.{and_parts, leb-true, leb-false, false≢true}
use Rattle.std.proofs.lemmas.List.Folds.{list_all-append}
use Rattle.std.proofs.lemmas.List.{length-take-le}
use Rattle.dap_tasks.specs.Task.{PlainTask}
use Rattle.dap_tasks.specs.declared.cause.Answer.{Answer}
use Rattle.dap_wire.specs.declared.upload.Upload.{Upload}
use Rattle.dap_wire.specs.Uploads.{Taking}
use Rattle.lane_records.specs.declared.place.Place.{Place}
use Rattle.lane_records.specs.declared.place.LaneFault.{LaneFault}
use Rattle.lane_records.specs.declared.place.LaneFault.TheVariants.{Stopped as LaneStopped, NoMemory as LaneNoMemory}
use Rattle.lane_records.specs.declared.record.Record.{Record}
use Rattle.lane_records.specs.Records.{record_}
use Rattle.legal_journals.specs.History.{Mem}
use Rattle.part_journal.specs.declared.fault.Appended.{Appended}
use Rattle.part_journal.specs.declared.fault.Appended.TheVariants.{Done, Kept, Lost}
use Rattle.part_journal.specs.declared.fault.PartFault.{PartFault}
use Rattle.part_journal.specs.declared.fault.TheConstants.{MOST_STOPS}
use Rattle.part_journal.specs.declared.fault.PartFault.TheVariants.{Stopped as PartStopped, NoMemory as PartNoMemory}
use Rattle.part_journal.specs.Pages.{Pages, first_pages, reopening, begun, IsBack, Restarted, UnderWay}
use Rattle.part_journal.specs.Part.{PartView, SameOpening, DeadWhere, IsDone, ComesBack, IsRefused, StaysDown, IsAtRest}
use Rattle.part_journal.specs.Came.{Came}
use Rattle.part_journal.specs.Counts.{CountsStops}
use Rattle.part_journal.specs.CountsLaws.{stops_none, stops_then, stops_as, risen_since}
use Rattle.part_journal.specs.CameLaws.{restarted_fate}
use Rattle.leader_lane.specs.declared.catalog.Catalog.{Catalog}
use Rattle.leader_lane.specs.Book.{BookView, no_book, held, proposed, settled_by, emptied}
use Rattle.leader_lane.specs.Catalog.{Lists}
use Rattle.leader_lane.specs.Faults.{of_lane, has_stopped}
use Rattle.leader_lane.specs.Judge.{Env}
use Rattle.leader_lane.specs.Sound.{IsPlace, opener_of, Sound}
use Rattle.leader_lane.specs.Own.{Own, own, Steps, up_with}
use Rattle.leader_lane.specs.Ready.{Ready}
use Rattle.leader_lane.specs.Lane.{LaneView, Keeps, Turned, CountsSince, env, records, IsLane, Stays, Goes, Fills, IsJudged, IsBackWith, Pumps, FindsNone}
use Rattle.leader_lane.proofs.JudgeLaws.{judges_each}
use Rattle.leader_lane.proofs.SoundLaws.{sound_front, sound_allowed}
use Rattle.leader_lane.proofs.CatalogLaws.{lists_came, lists_later, lists_some, lists_behind, lists_all}
use Rattle.leader_lane.proofs.OwnLaws.{steps_none, steps_is, steps_then, steps_done, steps_restarted, steps_under_way}
use Rattle.leader_lane.proofs.LaneLaws.{turned_none, turned_then, keeps_begun, settles, settles_answered, settles_held, keeps_emptied, keeps_first, settled_few, landed_told}

-- ---- answers

pub ok_of_lane : {A : Type 0} (r : Result A PartFault) (a : A) → of_lane r ≡ Ok a → r ≡ Ok a
ok_of_lane (Ok b) a e = let same : b ≡ a = cc e in ap (λ z. Ok z) same
ok_of_lane (Err f) a e = absurd (cc e)

pub stopped_of_lane : {A : Type 0} (r : Result A PartFault) → of_lane r ≡ Err LaneStopped → r ≡ Err PartStopped
stopped_of_lane (Ok b) e = absurd (cc e)
stopped_of_lane (Err PartStopped) e = refl
stopped_of_lane (Err PartNoMemory) e = let no : LaneNoMemory ≡ LaneStopped = cc e in absurd (cc no)

pub stopped_to_lane : {A : Type 0} (r : Result A PartFault) → r ≡ Err PartStopped → of_lane r ≡ Err LaneStopped
stopped_to_lane r e = ap (λ z. of_lane z) e

pub told_stop : {A : Type 0} (r : Result A PartFault) → IsTrue (has_stopped r) ↔ (of_lane r ≡ Err LaneStopped)
told_stop (Ok a) = ((λ h. absurd (cc h)), (λ e. absurd (cc e)))
told_stop (Err PartStopped) = ((λ h. refl), (λ e. refl))
told_stop (Err PartNoMemory) = ((λ h. absurd (cc h)), (λ e. let no : LaneNoMemory ≡ LaneStopped = cc e in absurd (cc no)))

pub is_stopped : {A : Type 0} (r : Result A PartFault) → IsTrue (has_stopped r) → r ≡ Err PartStopped
is_stopped (Ok a) h = absurd (cc h)
is_stopped (Err PartStopped) h = refl
is_stopped (Err PartNoMemory) h = absurd (cc h)

-- a lane's answer by its journal's
pub lane_told : {A : Type 0} (r : Result A PartFault) (o : Result A LaneFault) (stopped : Bool) → o ≡ of_lane r → stopped ≡ has_stopped r → IsTrue stopped ↔ (o ≡ Err LaneStopped)
lane_told r o stopped is e =
    let t = told_stop r in ((λ h. is ∙ t.0 (sym e ∙ h)), (λ h. e ∙ t.1 (sym is ∙ h)))

-- a call that wants memory isn't answered `Stopped`
pub memory_runs : {A : Type 0} (r : Result A LaneFault) → r ≡ Err LaneNoMemory → r ≡ Err LaneStopped → ⊥
memory_runs r m e = let both : LaneNoMemory ≡ LaneStopped = cc (sym m ∙ e) in absurd (cc both)

-- nor is one that is answered
pub ok_runs : {A : Type 0} (r : Result A LaneFault) (a : A) → r ≡ Ok a → r ≡ Err LaneStopped → ⊥
ok_runs r a m e = absurd (cc (sym m ∙ e))

-- a fault by another call's
pub err_as : {A B : Type 0} (f : LaneFault) → (let r : Result A LaneFault = Err f in r ≡ Err LaneStopped) → (let r : Result B LaneFault = Err f in r ≡ Err LaneStopped)
err_as f e = let same : f ≡ LaneStopped = cc e in ap (λ z. Err z) same

-- a lane that is up, behind a call that isn't answered so
pub calm_told : {A : Type 0} (r : Result A LaneFault) (stopped : Bool) → (IsTrue stopped → ⊥) → (r ≡ Err LaneStopped → ⊥) → IsTrue stopped ↔ (r ≡ Err LaneStopped)
calm_told r stopped quiet runs = ((λ h. absurd (quiet h)), (λ e. absurd (runs e)))

-- one call's answer by another's
pub ok_told : {A B : Type 0} (stopped : Bool) (a : A) (b : B) → (let r : Result A LaneFault = Ok a in IsTrue stopped ↔ (r ≡ Err LaneStopped)) → (let r : Result B LaneFault = Ok b in IsTrue stopped ↔ (r ≡ Err LaneStopped))
ok_told stopped a b t = ((λ h. absurd (cc (t.0 h))), (λ e. absurd (cc e)))

pub err_told : {A B : Type 0} (stopped : Bool) (f : LaneFault) → (let r : Result A LaneFault = Err f in IsTrue stopped ↔ (r ≡ Err LaneStopped)) → (let r : Result B LaneFault = Err f in IsTrue stopped ↔ (r ≡ Err LaneStopped))
err_told {A} {B} stopped f t = ((λ h. there (t.0 h)), (λ e. t.1 (back e))) where
  there : (let r : Result A LaneFault = Err f in r ≡ Err LaneStopped) → (let r : Result B LaneFault = Err f in r ≡ Err LaneStopped)
  there e = let same : f ≡ LaneStopped = cc e in ap (λ z. Err z) same

  back : (let r : Result B LaneFault = Err f in r ≡ Err LaneStopped) → (let r : Result A LaneFault = Err f in r ≡ Err LaneStopped)
  back e = let same : f ≡ LaneStopped = cc e in ap (λ z. Err z) same

module _ {D : Type 0} (downs deads : D → ℕ) where
  pub ok_counts : {A B : Type 0} (a : A) (b : B) (m n : ℕ) (x y : D) → (let r : Result A LaneFault = Ok a in CountsStops downs deads (r ≡ Err LaneStopped) m n x y) → (let r : Result B LaneFault = Ok b in CountsStops downs deads (r ≡ Err LaneStopped) m n x y)
  ok_counts a b m n x y c = stops_as downs deads _ _ m n x y (λ e. absurd (cc e)) (λ e. absurd (cc e)) c

  pub err_counts : {A B : Type 0} (f : LaneFault) (m n : ℕ) (x y : D) → (let r : Result A LaneFault = Err f in CountsStops downs deads (r ≡ Err LaneStopped) m n x y) → (let r : Result B LaneFault = Err f in CountsStops downs deads (r ≡ Err LaneStopped) m n x y)
  err_counts {A} {B} f m n x y c = stops_as downs deads _ _ m n x y there back c where
    there : (let r : Result A LaneFault = Err f in r ≡ Err LaneStopped) → (let r : Result B LaneFault = Err f in r ≡ Err LaneStopped)
    there e = let same : f ≡ LaneStopped = cc e in ap (λ z. Err z) same

    back : (let r : Result B LaneFault = Err f in r ≡ Err LaneStopped) → (let r : Result A LaneFault = Err f in r ≡ Err LaneStopped)
    back e = let same : f ≡ LaneStopped = cc e in ap (λ z. Err z) same

module _ {D : Type 0} (downs deads : D → ℕ) where
  -- a lane's counts by its journal's
  pub lane_counts : {A : Type 0} (r : Result A PartFault) (o : Result A LaneFault) (a b : ℕ) (x y : D) → o ≡ of_lane r → CountsStops downs deads (r ≡ Err PartStopped) a b x y → CountsStops downs deads (o ≡ Err LaneStopped) a b x y
  lane_counts r o a b x y is c = stops_as downs deads (r ≡ Err PartStopped) (o ≡ Err LaneStopped) a b x y (λ e. is ∙ stopped_to_lane r e) (λ e. stopped_of_lane r (sym is ∙ e)) c

  -- a call that leaves the journal as it was, and isn't answered `Stopped`
  pub counts_same : (stopped : Type 0) (v w : PartView D Record) → w ≡ v → 0 < v.left → (stopped → ⊥) → CountsStops downs deads stopped v.left w.left v.disk w.disk
  counts_same stopped v w e some runs =
      subst (λ (z : PartView D Record). CountsStops downs deads stopped v.left z.left v.disk z.disk) (sym e)
      (stops_as downs deads ⊥ stopped v.left v.left v.disk v.disk (λ n. absurd n) runs (stops_none downs deads v.left v.disk some))

  -- calls behind one that leaves the journal as it was
  pub counts_behind : (stopped other : Type 0) (v u w : PartView D Record) → u ≡ v → (stopped → other) → (other → stopped) → CountsStops downs deads stopped u.left w.left u.disk w.disk → CountsStops downs deads other v.left w.left v.disk w.disk
  counts_behind stopped other v u w e there back c =
      stops_as downs deads stopped other v.left w.left v.disk w.disk there back (subst (λ (z : PartView D Record). CountsStops downs deads stopped z.left w.left z.disk w.disk) e c)

  -- calls behind some that bore their stops
  pub counts_after : (stopped other : Type 0) (v u w : PartView D Record) → CountsStops downs deads ⊥ v.left u.left v.disk u.disk → (stopped → other) → (other → stopped) → CountsStops downs deads stopped u.left w.left u.disk w.disk
      → CountsStops downs deads other v.left w.left v.disk w.disk
  counts_after stopped other v u w first there back c =
      stops_then downs deads ⊥ other v.left u.left w.left v.disk u.disk w.disk (λ e. e) first (stops_as downs deads stopped other u.left w.left u.disk w.disk there back c)

  -- a call that begins with stops left
  pub from_one : (stopped : Type 0) (a b : ℕ) (x y : D) → 0 < a → CountsStops downs deads stopped a b x y → CountsStops downs deads stopped (max a 1) b x y
  from_one stopped a b x y some c = subst (λ (n : ℕ). CountsStops downs deads stopped n b x y) (let e : a ≡ max a 1 = omega (arith, some) in e) c

  -- the counts go on from the opening
  pub since_counts : (stopped : Type 0) (v w : PartView D Record) → CountsStops downs deads stopped (max v.left 1) w.left v.disk w.disk → DeadWhere stopped v w
      → (stops deaths : ℕ) → CountsSince downs deads stops deaths v → CountsSince downs deads stops deaths w
  since_counts stopped v w c dead stops deaths s = record {
    within = (let u = c.used in let n = s.within in omega (arith, u, n));
    stops_rose = risen_since downs deads stopped MOST_STOPS stops v.left w.left v.disk w.disk s.within s.stops_rose c;
    deaths_rose = λ h. ⊎_elim (λ was. (let a = s.deaths_rose was in let n = c.deaths.never_falls in omega (arith, a, n)))
        (λ now. (let a = c.deaths.answered now in let n = s.deaths_least in omega (arith, a, n))) (dead.0 h);
    deaths_least = (let a = s.deaths_least in let n = c.deaths.never_falls in omega (arith, a, n));
  }

  -- and begin with it
  pub since_opening : (x : D) (w : PartView D Record) → w.dead ≡ false → CountsStops downs deads ⊥ MOST_STOPS w.left x w.disk → CountsSince downs deads (downs x) (deads x) w
  since_opening x w alive c = record {
    within = c.used;
    stops_rose = c.stops.rises_by_each;
    deaths_rose = λ h. absurd (cc (sym alive ∙ h));
    deaths_least = c.deaths.never_falls;
  }

length_more : (us : List Upload) (u : Upload) → length (us ++ u ∷ []) ≡ suc (length us)
length_more [] u = refl
length_more (x ∷ us) u = ap suc (length_more us u)

-- ---- uploads in hand

drop_short : (n : ℕ) (xs : List Upload) → length xs ≤ n → drop n xs ≡ []
drop_short zero [] h = refl
drop_short zero (x ∷ xs) h = absurd (omega (arith, h))
drop_short (suc n) [] h = refl
drop_short (suc n) (x ∷ xs) h = drop_short n xs (omega (arith, h))

-- one upload more, where fewer were in hand
pub rest_more : (most : ℕ) (a : List Upload) (b c : BookView) (u : Upload) → length b.hand < most → drop most b.hand ≡ drop most a → c ≡ record b { hand = b.hand ++ u ∷ [] } → drop most c.hand ≡ drop most a
rest_more most a b c u few e is =
    let n = length_more b.hand u in
    ap (λ (k : BookView). drop most k.hand) is ∙ drop_short most (b.hand ++ u ∷ []) (omega (arith, n, few)) ∙ sym (drop_short most b.hand (omega (arith, few))) ∙ e

abbrev env_of : List PlainTask → Place → Env
env_of tasks place = record { tasks = tasks; place = place }

known_fate : (f : Option Bool) → f ≢ None → (b : Bool) × (f ≡ Some b)
known_fate None t = absurd (t refl)
known_fate (Some b) t = (b, refl)

-- where the call answered so, the lane is down, and it is known why
pub stop_known : {A D : Type 0} (r : Result A PartFault) (v w : PartView D Record) (stopped : Bool) → stopped ≡ has_stopped r → DeadWhere (r ≡ Err PartStopped) v w → (r ≡ Err PartStopped → w.up ≡ false)
    → IsTrue stopped → (w.up ≡ false) × (IsTrue w.dead ⊎ (w.left ≡ 0))
stop_known r v w stopped e dead down h =
    let is = is_stopped r (sym e ∙ h) in
    (down is, go w.left (λ some. dead.1 (inr (is, some)))) where
      go : (n : ℕ) → (0 < n → IsTrue w.dead) → IsTrue w.dead ⊎ (n ≡ 0)
      go zero f = inr refl
      go (suc n) f = inl (f (omega arith))

-- what a call leaves of the fate that it settles by
abbrev pub Settled : Catalog → Catalog → Option Bool → Type 0
Settled c d f =
    (f ≡ Some true → (records block : List Record) → Lists c records block → Lists d (records ++ block) [])
    × (f ≡ Some false → (records block : List Record) → Lists c records block → Lists d records [])
    × (f ≡ None → d ≡ c)

-- an append by its steps
append_steps : {D : Type 0} (n : Env) (v w : PartView D Record) (block : List Record) (r : Result Appended PartFault) → IsPlace n.place → v.opener ≡ opener_of n.place → Sound n.place (v.pages.records ++ block) → v.pages.opened ≡ true → v.pages.block ≡ []
    → Steps n (up_with v.pages.records []) (up_with v.pages.records block)
    → (r ≡ Ok Done → IsDone block v w) → (r ≡ Ok Kept → ComesBack true block v w) → (r ≡ Ok Lost → ComesBack false block v w)
    → (r ≡ Err PartNoMemory → IsRefused v w ⊎ StaysDown (begun block v.pages) v w) → (r ≡ Err PartStopped → StaysDown (begun block v.pages) v w)
    → Steps n (own v.pages) (own w.pages)
append_steps n v w block r is opener s up none begins is_done is_kept is_lost is_memory is_stop = go r is_done is_kept is_lost is_memory is_stop where
  here : own v.pages ≡ up_with v.pages.records []
  here = ap (λ (l : List Record). let o : Own = record { l = reverse v.pages.records; block = reverse l; up = v.pages.opened } in o) none
      ∙ ap (λ (b : Bool). let o : Own = record { l = reverse v.pages.records; block = reverse []; up = b } in o) up

  there : own (begun block v.pages) ≡ up_with v.pages.records block
  there = ap (λ (b : Bool). let o : Own = record { l = reverse v.pages.records; block = reverse block; up = b } in o) up

  begin : Steps n (own v.pages) (own (begun block v.pages))
  begin = subst (λ (o : Own). Steps n o (own (begun block v.pages))) (sym here) (subst (λ (o : Own). Steps n (up_with v.pages.records []) o) (sym there) begins)

  behind : Steps n (own (begun block v.pages)) (own w.pages) → Steps n (own v.pages) (own w.pages)
  behind more = steps_then n (own v.pages) (own (begun block v.pages)) (own w.pages) begin more

  back : (kept : Bool) → ComesBack kept block v w → Steps n (own v.pages) (own w.pages)
  back kept c = behind (steps_restarted n kept (begun block v.pages) w.pages is s (subst (λ (x : Record). Restarted x kept (begun block v.pages) w.pages) opener c.2))

  down : StaysDown (begun block v.pages) v w → Steps n (own v.pages) (own w.pages)
  down d = behind (steps_under_way n (begun block v.pages) w.pages is s (subst (λ (x : Record). UnderWay x (begun block v.pages) w.pages) opener d.1))

  go : (a : Result Appended PartFault) → (a ≡ Ok Done → IsDone block v w) → (a ≡ Ok Kept → ComesBack true block v w) → (a ≡ Ok Lost → ComesBack false block v w)
      → (a ≡ Err PartNoMemory → IsRefused v w ⊎ StaysDown (begun block v.pages) v w) → (a ≡ Err PartStopped → StaysDown (begun block v.pages) v w) → Steps n (own v.pages) (own w.pages)
  go (Ok Done) d k l m t =
      let q = d refl in
      behind (subst (λ (z : Pages Record). Steps n (own (begun block v.pages)) (own z)) (sym q.2) (steps_done n (begun block v.pages) up))
  go (Ok Kept) d k l m t = back true (k refl)
  go (Ok Lost) d k l m t = back false (l refl)
  go (Err PartNoMemory) d k l m t =
      ⊎_elim (λ (q : IsRefused v w). steps_is n (own v.pages) (own w.pages) (ap (λ (z : Pages Record). own z) q.2)) (λ (q : StaysDown (begun block v.pages) v w). down q) (m refl)
  go (Err PartStopped) d k l m t = down (t refl)

drop_min : (n most : ℕ) (xs : List Upload) → n ≡ min (length xs) most → drop n xs ≡ drop most xs
drop_min n most xs e = go (leb (length xs) most) refl where
  go : (b : Bool) → leb (length xs) most ≡ b → drop n xs ≡ drop most xs
  go true l = let le = leb-true (length xs) most l in drop_short n xs (omega (arith, e, le)) ∙ sym (drop_short most xs le)
  go false l = let lt = leb-false (length xs) most l in ap (λ (m : ℕ). drop m xs) (let same : n ≡ most = omega (arith, e, lt) in same)

none_in : (xs : List Upload) → length xs ≡ 0 → xs ≡ []
none_in [] e = refl
none_in (x ∷ xs) e = absurd (cc e)

none_before : (xs ys : List Upload) → [] ≡ xs ++ ys → (xs ≡ []) × (ys ≡ [])
none_before [] ys e = (refl, sym e)
none_before (x ∷ xs) ys e = absurd (cc e)

none_left : (most n : ℕ) (xs : List Upload) → n ≡ min (length xs) most → n ≡ 0 → 1 ≤ most → xs ≡ []
none_left most n xs e z some = none_in xs (omega (arith, e, z, some))

module _ {D : Type 0} (downs deads : D → ℕ) where
  -- the clauses of an append
  pub record Appends (r : Result Appended PartFault) (block : List Record) (v w : PartView D Record) : Type 0 where
    pub is_done : r ≡ Ok Done → IsDone block v w
    pub is_kept : r ≡ Ok Kept → ComesBack true block v w
    pub is_lost : r ≡ Ok Lost → ComesBack false block v w
    pub is_memory : r ≡ Err PartNoMemory → IsRefused v w ⊎ StaysDown (begun block v.pages) v w
    pub is_stop : r ≡ Err PartStopped → StaysDown (begun block v.pages) v w
    pub came : Came v.opener (begun block v.pages) w.pages
    pub dead : DeadWhere (r ≡ Err PartStopped) v w
    pub counts : CountsStops downs deads (r ≡ Err PartStopped) v.left w.left v.disk w.disk
    pub same : SameOpening v w

module _ {D T : Type 0} (downs deads : D → ℕ) where
  -- ---- what calls do joins

  same_env : (v w : LaneView D T) → Stays v w → env w ≡ env v
  same_env v w s = ap (λ (t : List PlainTask). env_of t w.place) s.tasks ∙ ap (λ (p : Place). env_of v.tasks p) s.place

  pub stays_none : (v : LaneView D T) → Stays v v
  stays_none v = record { tasks = refl; place = refl; opening = refl; start = refl; ring = refl; link = refl }

  pub goes_none : (v : LaneView D T) → Goes downs deads v v
  goes_none v = record {
    turned = turned_none (env v) v.part.pages v.part.pages v.front.received v.book refl;
    steps = steps_none (env v) (own v.part.pages);
    stays = stays_none v;
    counted = λ stops deaths c. c;
  }

  pub goes_then : (a b c : LaneView D T) → Goes downs deads a b → Goes downs deads b c → Goes downs deads a c
  goes_then a b c x y =
      let e : env b ≡ env a = same_env a b x.stays in
      record {
        turned = turned_then (env a) a.part.pages b.part.pages c.part.pages a.front.received b.front.received c.front.received a.book b.book c.book x.turned
            (subst (λ (n : Env). Turned n b.part.pages c.part.pages b.front.received c.front.received b.book c.book) e y.turned);
        steps = steps_then (env a) (own a.part.pages) (own b.part.pages) (own c.part.pages) x.steps (subst (λ (n : Env). Steps n (own b.part.pages) (own c.part.pages)) e y.steps);
        stays = record {
          tasks = y.stays.tasks ∙ x.stays.tasks;
          place = y.stays.place ∙ x.stays.place;
          opening = y.stays.opening ∙ x.stays.opening;
          start = y.stays.start ∙ x.stays.start;
          ring = y.stays.ring ∙ x.stays.ring;
          link = y.stays.link ∙ x.stays.link;
        };
        counted = λ stops deaths c. y.counted stops deaths (x.counted stops deaths c);
      }

  -- ---- at rest

  pub lane_sound : (c : Catalog) (v : LaneView D T) → IsLane c v → Sound v.place (records v)
  lane_sound c v is = sound_front v.place (records v) v.part.pages.block is.keeps.sound

  -- where it is up no call has left it down
  pub not_stopped : (c : Catalog) (v : LaneView D T) → IsLane c v → IsTrue v.part.up → IsTrue v.stopped → ⊥
  not_stopped c v is up h = false≢true (sym (is.stopped h).0 ∙ up)

  pub calm : (c : Catalog) (v : LaneView D T) → IsLane c v → IsTrue v.part.up → v.stopped ≡ false
  calm c v is up = go v.stopped (λ h. not_stopped c v is up h) where
    go : (b : Bool) → (IsTrue b → ⊥) → b ≡ false
    go true quiet = absurd (quiet refl)
    go false quiet = refl

  pub lane_rests : (c : Catalog) (v : LaneView D T) → IsLane c v → v.part.pages.fate ≢ None → v.book.block_answers ≡ []
  lane_rests c v is told = go v.part.pages.fate refl where
    go : (f : Option Bool) → v.part.pages.fate ≡ f → v.book.block_answers ≡ []
    go None e = absurd (told e)
    go (Some b) e = (is.keeps.settled b e).1

  -- the catalog took in more of the records, and nothing else changed
  pub lane_listed : (c d : Catalog) (v : LaneView D T) → v.part.pages.fate ≢ None
      → ((seen more : List Record) → Lists c seen [] → records v ≡ seen ++ more → (some rest : List Record) × (more ≡ some ++ rest) × Lists d (seen ++ some) [])
      → IsLane c v → IsLane d v
  lane_listed c d v told call is =
      let k = known_fate v.part.pages.fate told in
      record { place = is.place; opener = is.opener; keeps = is.keeps; lists = lists_some (opener_of v.place) c d v.part.pages k.0 k.1 call is.lists; few = is.few; stopped = is.stopped }

  -- the catalog of all records
  pub lane_all_listed : (c d : Catalog) (v : LaneView D T) (book : BookView) → v.part.pages.fate ≢ None → Lists d (records v) [] → book ≡ v.book → IsLane c v → IsLane d (record v { book = book }) × Goes downs deads v (record v { book = book })
  lane_all_listed c d v book told l e is =
      subst (λ (b : BookView). IsLane d (record v { book = b }) × Goes downs deads v (record v { book = b })) (sym e) (
        record { place = is.place; opener = is.opener; keeps = is.keeps; lists = lists_all (opener_of v.place) d v.part.pages told l; few = is.few; stopped = is.stopped },
        record { turned = turned_none (env v) v.part.pages v.part.pages v.front.received v.book refl; steps = steps_none (env v) (own v.part.pages); stays = record { tasks = refl; place = refl; opening = refl; start = refl; ring = refl; link = refl }; counted = λ stops deaths c. c },
      )

  -- ---- uploads

  stays_with : (c : Catalog) (v : LaneView D T) (book : BookView) (front : Taking) → IsLane c v → book ≡ v.book → front.received ≡ v.front.received → front.into ≡ v.front.into
      → IsLane c (record v { book = book; front = front }) × Goes downs deads v (record v { book = book; front = front })
  stays_with c v book front is e f ring =
      subst (λ (b : BookView). IsLane c (record v { book = b; front = front }) × Goes downs deads v (record v { book = b; front = front })) (sym e) (
        record { place = is.place; opener = is.opener; keeps = subst (λ (t : List Upload). Keeps (env v) v.start v.part.pages t v.book) (sym f) is.keeps; lists = is.lists; few = is.few; stopped = is.stopped },
        record {
          turned = subst (λ (t : List Upload). Turned (env v) v.part.pages v.part.pages v.front.received t v.book v.book) (sym f) (turned_none (env v) v.part.pages v.part.pages v.front.received v.book refl);
          steps = steps_none (env v) (own v.part.pages);
          stays = record { tasks = refl; place = refl; opening = refl; start = refl; ring = ring; link = refl };
          counted = λ stops deaths c. c;
        },
      )

  pub lane_holds : (c : Catalog) (v : LaneView D T) (book : BookView) (front : Taking) (r : Result Bool AllocError) → IsLane c v → v.part.pages.fate ≢ None → length v.book.hand < 64
      → (r ≡ Ok true → (u : Upload) × (book ≡ held u v.book) × (front.received ≡ v.front.received ++ u ∷ []))
      → (r ≡ Ok false → (book ≡ v.book) × (front.received ≡ v.front.received) × (front.waiting ≡ []))
      → OnErr r ((book ≡ v.book) × (front ≡ v.front)) → front.into ≡ v.front.into
      → IsLane c (record v { book = book; front = front }) × Goes downs deads v (record v { book = book; front = front })
  lane_holds c v book front (Ok true) is told few t n e ring =
      let h = t refl in
      let s = settles_held (env v) v.start v.part.pages v.front.received front.received v.book book h.0 is.keeps told h.1 h.2 in
      let size : length book.hand ≤ 64 = subst (λ (b : BookView). length b.hand ≤ 64) (sym h.1) (let l = length_more v.book.hand h.0 in omega (arith, l, few)) in (
        record { place = is.place; opener = is.opener; keeps = s.0; lists = is.lists; few = size; stopped = is.stopped },
        record {
          turned = s.1;
          steps = steps_none (env v) (own v.part.pages);
          stays = record { tasks = refl; place = refl; opening = refl; start = refl; ring = ring; link = refl };
          counted = λ stops deaths c. c;
        },
      )
  lane_holds c v book front (Ok false) is told few t n e ring = let h = n refl in stays_with c v book front is h.0 h.1 ring
  lane_holds c v book front (Err x) is told few t n e ring = stays_with c v book front is e.0 (ap (λ (z : Taking). z.received) e.1) ring

  pub lane_empties : (c : Catalog) (v : LaneView D T) (book : BookView) → IsLane c v → book ≡ emptied v.book → IsLane c (record v { book = book })
  lane_empties c v book is e = subst (λ (b : BookView). IsLane c (record v { book = b })) (sym e)
      (record { place = is.place; opener = is.opener; keeps = keeps_emptied (env v) v.start v.part.pages v.front.received v.book is.keeps; lists = is.lists; few = is.few; stopped = is.stopped })

  -- uploads of which none adds a record are answered
  pub lane_answers : (c d : Catalog) (v : LaneView D T) (first second : BookView) (n : ℕ) (block : List Record) (answers : List Answer) → IsLane c v → v.part.pages.fate ≢ None → block ≡ [] → n ≤ length v.book.hand
      → Lists d (records v) block → Ready (env v) (records v) block answers (take n v.book.hand) → first ≡ proposed n answers v.book → second ≡ settled_by (Some true) first
      → IsLane d (record v { book = second }) × Goes downs deads v (record v { book = second }) × ((second.hand ≡ drop n v.book.hand) × (length second.answers ≡ length v.book.answers + n))
  lane_answers c d v first second n block answers is told none within l r a b =
      let s = settles_answered (env v) v.start v.part.pages v.front.received v.book n block answers is.place is.keeps told none r in
      let same : second ≡ settled_by (Some true) (proposed n answers v.book) = b ∙ ap (λ (z : BookView). settled_by (Some true) z) a in
      subst (λ (z : BookView). IsLane d (record v { book = z }) × Goes downs deads v (record v { book = z }) × ((z.hand ≡ drop n v.book.hand) × (length z.answers ≡ length v.book.answers + n))) (sym same) (
        record {
          place = is.place;
          opener = is.opener;
          keeps = s.0;
          lists = lists_all (opener_of v.place) d v.part.pages told (subst (λ (m : List Record). Lists d (records v) m) none l);
          few = settled_few (Some true) (proposed n answers v.book) 64 is.few;
          stopped = is.stopped;
        },
        record { turned = s.1; steps = steps_none (env v) (own v.part.pages); stays = record { tasks = refl; place = refl; opening = refl; start = refl; ring = refl; link = refl }; counted = λ stops deaths c. c },
        landed_told v.book n answers (judges_each (env v) (records v) (records v ++ block) (take n v.book.hand) answers r.judges) within,
      )

  -- ---- what is judged

  -- what judging wants of the records
  pub lane_judges : (c : Catalog) (v : LaneView D T) (recs : List Record) → recs ≡ records v → v.part.pages.fate ≢ None → IsLane c v
      → Sound v.place recs × Mem (opener_of v.place) recs × ((seen more : List Record) × (recs ≡ seen ++ more) × Lists c seen [])
  lane_judges c v recs e told is =
      let behind = lists_behind (opener_of v.place) c v.part.pages told is.lists in (
        subst (λ (l : List Record). Sound v.place l) (sym e) (lane_sound c v is),
        subst (λ (l : List Record). Mem (opener_of v.place) l) (sym e) is.keeps.opened,
        (behind.0, behind.1, e ∙ behind.2, behind.3),
      )

  -- what it gives
  pub ready_at : (v : LaneView D T) (recs : List Record) (us : List Upload) (n : ℕ) (block : List Record) (answers : List Answer) → recs ≡ records v → us ≡ take n v.book.hand → Ready (env v) recs block answers us
      → Ready (env v) (records v) block answers (take n v.book.hand)
  ready_at v recs us n block answers e is r =
      subst (λ (l : List Record). Ready (env v) l block answers (take n v.book.hand)) e (subst (λ (l : List Upload). Ready (env v) recs block answers l) is r)

  pub listed_at : (c d : Catalog) (v : LaneView D T) (recs : List Record) → recs ≡ records v
      → ((seen more : List Record) → Lists c seen [] → recs ≡ seen ++ more → (some rest : List Record) × (more ≡ some ++ rest) × Lists d (seen ++ some) [])
      → (seen more : List Record) → Lists c seen [] → records v ≡ seen ++ more → (some rest : List Record) × (more ≡ some ++ rest) × Lists d (seen ++ some) []
  listed_at c d v recs e call seen more l is = call seen more l (e ∙ is)

  -- ---- the journal's calls

  -- the lane after a call of its journal, with book and catalog settled
  pub lane_settles : (c d : Catalog) (v : LaneView D T) (part : PartView D Record) (f : Option Bool) (book : BookView) (stopped : Bool) → IsLane c v → part.opener ≡ v.part.opener → f ≡ part.pages.fate → book ≡ settled_by f v.book
      → Came v.part.opener v.part.pages part.pages → Settled c d f → (IsTrue stopped → (part.up ≡ false) × (IsTrue part.dead ⊎ (part.left ≡ 0)))
      → IsLane d (record v { part = part; book = book; stopped = stopped }) × Turned (env v) v.part.pages part.pages v.front.received v.front.received v.book book
  lane_settles c d v part f book stopped is opener fate e came settled down =
      let on : Came (opener_of v.place) v.part.pages part.pages = subst (λ (x : Record). Came x v.part.pages part.pages) is.opener came in
      let s = settles (env v) v.start v.part.pages part.pages v.front.received v.book is.place is.keeps on in
      let same : book ≡ settled_by part.pages.fate v.book = e ∙ ap (λ (g : Option Bool). settled_by g v.book) fate in
      subst (λ (b : BookView). IsLane d (record v { part = part; book = b; stopped = stopped }) × Turned (env v) v.part.pages part.pages v.front.received v.front.received v.book b) (sym same) (
        record {
          place = is.place;
          opener = opener ∙ is.opener;
          keeps = s.0;
          lists = lists_came (opener_of v.place) c d v.part.pages part.pages on is.lists (λ g. settled.0 (fate ∙ g)) (λ g. settled.1 (fate ∙ g)) (λ g. settled.2 (fate ∙ g));
          few = settled_few part.pages.fate v.book 64 is.few;
          stopped = down;
        },
        s.1,
      )

  -- an append, with book and catalog settled
  pub lane_appends : (c d e : Catalog) (v : LaneView D T) (part : PartView D Record) (f : Option Bool) (first second : BookView) (stopped : Bool) (n : ℕ) (block : List Record) (answers : List Answer) (r : Result Appended PartFault)
      → IsLane c v → IsAtRest v.part.pages v.part.left → Lists d (records v) block → Ready (env v) (records v) block answers (take n v.book.hand)
      → f ≡ part.pages.fate → first ≡ proposed n answers v.book → second ≡ settled_by f first → stopped ≡ has_stopped r → Settled d e f → Appends downs deads r block v.part part
      → IsLane e (record v { part = part; book = second; stopped = stopped }) × Goes downs deads v (record v { part = part; book = second; stopped = stopped })
  lane_appends c d e v part f first second stopped n block answers r is rest l ready fate a b stop settled calls =
      let u : LaneView D T = record v { part = record v.part { pages = begun block v.part.pages }; book = proposed n answers v.book; stopped = false } in
      let on : IsLane d u = record {
        place = is.place;
        opener = is.opener;
        keeps = keeps_begun (env v) v.start v.part.pages v.front.received v.book n block answers is.keeps ready;
        lists = l;
        few = is.few;
        stopped = λ h. absurd (cc h);
      } in
      let s = lane_settles d e u part f second stopped on calls.same.0 fate (b ∙ ap (λ (z : BookView). settled_by f z) a) calls.came settled (stop_known r v.part part stopped stop calls.dead (λ is_err. (calls.is_stop is_err).0)) in (
        s.0,
        record {
          turned = record { more = s.1.more; us = s.1.us; told = s.1.told; takes = s.1.takes; hand = s.1.hand; answers = s.1.answers; judges = s.1.judges; grows = s.1.grows };
          steps = append_steps (env v) v.part part block r is.place is.opener ready.sound rest.opened rest.block ready.steps calls.is_done calls.is_kept calls.is_lost calls.is_memory calls.is_stop;
          stays = record { tasks = refl; place = refl; opening = calls.same.1; start = refl; ring = refl; link = refl };
          counted = since_counts downs deads (r ≡ Err PartStopped) v.part part (from_one downs deads (r ≡ Err PartStopped) v.part.left part.left v.part.disk part.disk rest.borne calls.counts) calls.dead;
        },
      )

  -- the block counts
  pub lane_judged : (v : LaneView D T) (f : Option Bool) (first second : BookView) (n : ℕ) (block : List Record) (answers : List Answer) → n ≤ length v.book.hand → Ready (env v) (records v) block answers (take n v.book.hand)
      → first ≡ proposed n answers v.book → second ≡ settled_by f first → f ≡ Some true → (second.hand ≡ drop n v.book.hand) × (length second.answers ≡ length v.book.answers + n)
  lane_judged v f first second n block answers within r a b is =
      let same : second ≡ settled_by (Some true) (proposed n answers v.book) = b ∙ ap (λ (g : Option Bool). settled_by g first) is ∙ ap (λ (z : BookView). settled_by (Some true) z) a in
      subst (λ (z : BookView). (z.hand ≡ drop n v.book.hand) × (length z.answers ≡ length v.book.answers + n)) (sym same)
      (landed_told v.book n answers (judges_each (env v) (records v) (records v ++ block) (take n v.book.hand) answers r.judges) within)

  -- the block is lost
  pub lane_lost : (v : LaneView D T) (f : Option Bool) (first second : BookView) (n : ℕ) (answers : List Answer) → first ≡ proposed n answers v.book → second ≡ settled_by f first → f ≡ Some false
      → (second.hand ≡ v.book.hand) × (second.answers ≡ v.book.answers)
  lane_lost v f first second n answers a b is =
      let same : second ≡ settled_by (Some false) (proposed n answers v.book) = b ∙ ap (λ (g : Option Bool). settled_by g first) is ∙ ap (λ (z : BookView). settled_by (Some false) z) a in
      (ap (λ (z : BookView). z.hand) same, ap (λ (z : BookView). z.answers) same)

  -- an append that is done, and one that is back
  pub judged_by_done : (v : LaneView D T) (part : PartView D Record) (f : Option Bool) (first second : BookView) (stopped : Bool) (n : ℕ) (block : List Record) (answers : List Answer) → n ≤ length v.book.hand
      → Ready (env v) (records v) block answers (take n v.book.hand) → f ≡ part.pages.fate → first ≡ proposed n answers v.book → second ≡ settled_by f first → IsDone block v.part part
      → IsJudged n v (record v { part = part; book = second; stopped = stopped })
  judged_by_done v part f first second stopped n block answers within r fate a b d =
      let t = lane_judged v f first second n block answers within r a b (fate ∙ ap (λ (z : Pages Record). z.fate) d.2) in
      record { up = d.0; hand = t.0; told = t.1 }

  pub judged_by_kept : (v : LaneView D T) (part : PartView D Record) (f : Option Bool) (first second : BookView) (stopped : Bool) (n : ℕ) (block : List Record) (answers : List Answer) → n ≤ length v.book.hand
      → Ready (env v) (records v) block answers (take n v.book.hand) → f ≡ part.pages.fate → first ≡ proposed n answers v.book → second ≡ settled_by f first → ComesBack true block v.part part
      → IsJudged n v (record v { part = part; book = second; stopped = stopped })
  judged_by_kept v part f first second stopped n block answers within r fate a b d =
      let t = lane_judged v f first second n block answers within r a b (fate ∙ restarted_fate v.part.opener true block v.part.pages part.pages d.2) in
      record { up = d.0; hand = t.0; told = t.1 }

  pub back_by_lost : (v : LaneView D T) (part : PartView D Record) (f : Option Bool) (first second : BookView) (stopped : Bool) (n : ℕ) (block : List Record) (answers : List Answer)
      → f ≡ part.pages.fate → first ≡ proposed n answers v.book → second ≡ settled_by f first → ComesBack false block v.part part
      → IsBackWith v (record v { part = part; book = second; stopped = stopped })
  back_by_lost v part f first second stopped n block answers fate a b d =
      let t = lane_lost v f first second n answers a b (fate ∙ restarted_fate v.part.opener false block v.part.pages part.pages d.2) in
      record { up = d.0; fewer = d.1; hand = t.0; answers = t.1 }

  -- a restart, with book and catalog settled
  pub lane_restarts : (c d : Catalog) (v : LaneView D T) (part : PartView D Record) (f : Option Bool) (book : BookView) (stopped : Bool) (r : Result (Unit {0}) PartFault) → IsLane c v
      → OnOk r (IsTrue part.up × ((kept : Bool) × Restarted v.part.opener kept v.part.pages part.pages)) → OnErr r (StaysDown v.part.pages v.part part)
      → Came v.part.opener v.part.pages part.pages → DeadWhere (r ≡ Err PartStopped) v.part part → CountsStops downs deads (r ≡ Err PartStopped) (max v.part.left 1) part.left v.part.disk part.disk → SameOpening v.part part
      → f ≡ part.pages.fate → book ≡ settled_by f v.book → stopped ≡ has_stopped r → Settled c d f
      → IsLane d (record v { part = part; book = book; stopped = stopped }) × Goes downs deads v (record v { part = part; book = book; stopped = stopped })
  lane_restarts c d v part f book stopped r is ok err came dead counts same fate b stop settled =
      let s = lane_settles c d v part f book stopped is same.0 fate b came settled (stop_known r v.part part stopped stop dead (down r err)) in
      (s.0, record { turned = s.1; steps = go r ok err; stays = record { tasks = refl; place = refl; opening = same.1; start = refl; ring = refl; link = refl }; counted = since_counts downs deads (r ≡ Err PartStopped) v.part part counts dead })
    where
      down : (a : Result (Unit {0}) PartFault) → OnErr a (StaysDown v.part.pages v.part part) → a ≡ Err PartStopped → part.up ≡ false
      down (Ok x) e h = absurd (cc h)
      down (Err x) e h = e.0

      go : (a : Result (Unit {0}) PartFault) → OnOk a (IsTrue part.up × ((kept : Bool) × Restarted v.part.opener kept v.part.pages part.pages)) → OnErr a (StaysDown v.part.pages v.part part) → Steps (env v) (own v.part.pages) (own part.pages)
      go (Ok x) o e = steps_restarted (env v) o.1.0 v.part.pages part.pages is.place is.keeps.sound (subst (λ (y : Record). Restarted y o.1.0 v.part.pages part.pages) is.opener o.1.1)
      go (Err x) o e = steps_under_way (env v) v.part.pages part.pages is.place is.keeps.sound (subst (λ (y : Record). UnderWay y v.part.pages part.pages) is.opener e.1)

  -- ---- the block that is appended

  pub block_allowed : (v : LaneView D T) (block : List Record) (answers : List Answer) (us : List Upload) → Ready (env v) (records v) block answers us → IsTrue (list_all record_.allowed block)
  block_allowed v block answers us r =
      (and_parts (list_all record_.allowed (records v)) (list_all record_.allowed block) (sym (list_all-append record_.allowed (records v) block) ∙ sound_allowed v.place (records v ++ block) r.sound)).1

  pub few_judged : (v : LaneView D T) (n : ℕ) → n ≤ length v.book.hand → length v.book.hand ≤ 64 → length (take n v.book.hand) ≤ 64
  few_judged v n within few = (let e = length-take-le n v.book.hand within in omega (arith, e, within, few))

  -- ---- an opening

  pub lane_opens : (c : Catalog) (v : LaneView D T) (recs : List Record) → IsPlace v.place → Sound v.place recs → v.part.opener ≡ opener_of v.place → v.start ≡ length recs → v.front.received ≡ [] → v.book ≡ no_book → v.stopped ≡ false
      → IsBack (opener_of v.place) (reopening (opener_of v.place) (first_pages recs)) v.part.pages → Came (opener_of v.place) (first_pages recs) v.part.pages → Lists c recs [] → IsLane c v
  lane_opens c v recs is s opener start front book stopped back came l = record {
    place = is;
    opener = opener;
    keeps = subst (λ (b : BookView). Keeps (env v) v.start v.part.pages v.front.received b) (sym book)
        (keeps_first (env v) recs v.part.pages v.front.received v.start is s start front back came);
    lists = lists_later (opener_of v.place) c (first_pages recs) v.part.pages false refl came (recs, (0, sym (append-nil recs)), l);
    few = subst (λ (b : BookView). length b.hand ≤ 64) (sym book) (omega arith);
    stopped = λ h. absurd (cc (sym stopped ∙ h));
  }

  -- ---- pumps

  pub fills_none : (most : ℕ) (v : LaneView D T) → (more : List Upload) × (v.book ≡ record v.book { hand = v.book.hand ++ more }) × (v.front.received ≡ v.front.received ++ more)
  fills_none most v = ([], ap (λ (l : List Upload). let b : BookView = record v.book { hand = l } in b) (sym (append-nil v.book.hand)), sym (append-nil v.front.received))

  pub fills_more : (a b c : LaneView D T) (more : List Upload) (u : Upload) → b.book ≡ record a.book { hand = a.book.hand ++ more } → b.front.received ≡ a.front.received ++ more
      → c.book ≡ record b.book { hand = b.book.hand ++ u ∷ [] } → c.front.received ≡ b.front.received ++ u ∷ []
      → (all : List Upload) × (c.book ≡ record a.book { hand = a.book.hand ++ all }) × (c.front.received ≡ a.front.received ++ all)
  fills_more a b c more u x y z w = (
    more ++ u ∷ [],
    z ∙ ap (λ (k : BookView). let n : BookView = record k { hand = k.hand ++ u ∷ [] } in n) x
        ∙ ap (λ (l : List Upload). let n : BookView = record a.book { hand = l } in n) (append_assoc a.book.hand more (u ∷ [])),
    w ∙ ap (λ (l : List Upload). l ++ u ∷ []) y ∙ append_assoc a.front.received more (u ∷ []),
  )

  -- the same calls from a lane with the same uploads and answers
  pub judged_from : (n : ℕ) (a b c : LaneView D T) → b.book.hand ≡ a.book.hand → b.book.answers ≡ a.book.answers → IsJudged n b c → IsJudged n a c
  judged_from n a b c h e j = record {
    up = j.up;
    hand = j.hand ∙ ap (λ (l : List Upload). drop n l) h;
    told = j.told ∙ ap (λ (l : List Answer). length l + n) e;
  }

  -- uploads were taken, and so many judged
  pub pumps_judged : (most n : ℕ) (a b c : LaneView D T) → Fills most a b → n ≡ min (length b.book.hand) most → IsJudged n b c → c.front ≡ b.front → Pumps most n a c
  pumps_judged most n a b c f e j front = record {
    up = j.up;
    within = omega (arith, e);
    told = j.told ∙ ap (λ (k : BookView). length k.answers + n) f.took.1;
    hand = j.hand ∙ drop_min n most b.book.hand e ∙ f.rest;
    all = λ few. ap (λ (z : Taking). z.waiting) front ∙ f.all (omega (arith, e, few));
  }

  -- none was there
  pub pumps_none : (most n : ℕ) (a b : LaneView D T) → IsTrue b.part.up → Fills most a b → n ≡ min (length b.book.hand) most → n ≡ 0 → 1 ≤ most → Pumps most 0 a b
  pumps_none most n a b up f e z some =
      let none = none_left most n b.book.hand e z some in
      record {
        up = up;
        within = omega (arith, some);
        told = (let t : length b.book.answers ≡ length a.book.answers = ap (λ (k : BookView). length k.answers) f.took.1 in omega (arith, t));
        hand = none ∙ sym (drop_short most [] (omega (arith, some))) ∙ ap (λ (l : List Upload). drop most l) (sym none) ∙ f.rest;
        all = λ few. f.all (subst (λ (l : List Upload). length l < most) (sym none) few);
      }

  pub finds_none : (most n : ℕ) (a b : LaneView D T) → Fills most a b → n ≡ min (length b.book.hand) most → n ≡ 0 → 1 ≤ most → b.part ≡ a.part → FindsNone a b
  finds_none most n a b f e z some part =
      let none = none_left most n b.book.hand e z some in
      let parts = none_before a.book.hand f.took.0 (sym none ∙ ap (λ (k : BookView). k.hand) f.took.1) in
      record {
        hand = parts.0;
        ring = f.all (subst (λ (l : List Upload). length l < most) (sym none) (omega (arith, some)));
        received = f.took.2 ∙ ap (λ (l : List Upload). a.front.received ++ l) parts.1 ∙ append-nil a.front.received;
        part = part;
        book = f.took.1 ∙ ap (λ (l : List Upload). let k : BookView = record a.book { hand = l } in k) (ap (λ (l : List Upload). a.book.hand ++ l) parts.1 ∙ append-nil a.book.hand);
      }

  -- one at most, and not none
  pub pumps_one : (n : ℕ) (v w : LaneView D T) → Pumps 1 n v w → (n ≡ 0 → ⊥) → Pumps 1 1 v w
  pumps_one n v w p some = subst (λ (m : ℕ). Pumps 1 m v w) (go n p.within some) p where
    go : (m : ℕ) → m ≤ 1 → (m ≡ 0 → ⊥) → m ≡ 1
    go zero le t = absurd (t refl)
    go (suc m) le t = omega (arith, le)
