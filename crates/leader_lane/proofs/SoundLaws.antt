-- What may follow in a lane's journal.
use Rattle.std.proofs.Common.{◌≡◌, ◌⊎◌, inl, inr, ⊎_elim, ℕ, zero, suc, ◌≤◌, List, [], ◌∷◌, ◌++◌, reverse, Bool, true, false, ◌&&◌, ◌==◌, is_some, Option, Some, None, cond, if◌then◌else◌, refl, sym, ap, subst, ◌∙◌, append_assoc, append-nil, arith, Bor}
use Rattle.std.specs.Prelude.{nat_le, IsTrue, IfSome}
use Rattle.std.specs.List.{find, list_any, list_all}
use Rattle.std.specs.Option.{option_map, option_map_or}
use Rattle.std.proofs.lemmas.List.{reverse-append}
use Rattle.std.proofs.lemmas.Bool.{and_from, and_parts, leb-false, false≢true}
use Rattle.std.proofs.lemmas.Bool.Decides.{Decides-eqb}
use Rattle.std.proofs.lemmas.Slice.Eq.{bytes_eq-Decides}
use Rattle.dap_bytes.specs.declared.node.Node.TheVariants.{Leader}
use Rattle.dap_bytes.specs.declared.part.Part.TheVariants.{Lane}
use Rattle.dap_batch.specs.Group.{lane_number, batch_start}
use Rattle.dap_messages.specs.Messages.{report}
use Rattle.dap_messages.specs.declared.report.Report.{Report}
use Rattle.dap_tasks.specs.Judged.{judged, is_known_as, is_early, is_expired}
use Rattle.dap_tasks.specs.Task.{PlainTask, has_name}
use Rattle.dap_tasks.specs.declared.cause.Cause.TheVariants as cause
use Rattle.dap_tasks.specs.declared.cause.Judged.{Judged}
use Rattle.dap_tasks.specs.declared.cause.Judged.TheVariants.{Again, Barred, Added}
use Rattle.dap_wire.specs.declared.upload.Upload.{Upload}
use Rattle.lane_records.specs.Formats.{byte_of_format}
use Rattle.lane_records.specs.declared.format.Format.{Format}
use Rattle.lane_records.specs.declared.format.Format.TheVariants.{One, Two}
use Rattle.lane_records.specs.declared.place.Place.{Place}
use Rattle.lane_records.specs.declared.record.Record.{Record}
use Rattle.lane_records.specs.declared.record.Record.TheVariants.{Accept, LeaderClose}
use Rattle.legal_journals.specs.History.{Mem, lanes_in, opens, count_some}
use Rattle.legal_journals.specs.Legal.{May, IsLegal}
use Rattle.lane_records.specs.Records.{record_}
use Rattle.legal_journals.proofs.Grown.{legal_grown, older_legal, legal_allowed}
use Rattle.legal_journals.proofs.Members.{Mem-reverse, Mem-from_reverse, any_told, all_told}
use Rattle.std.specs.Prelude.{replicate}
use Rattle.part_journal.specs.Came.{Opens}
use Rattle.std.specs.Str.{bytes_eq}
use Rattle.dap_messages.specs.Reports.{has_key, known_in}
use Rattle.lane_records.specs.Records.{accept_of}
use Rattle.legal_journals.specs.LegalLanes.{IsLeaderClosed}
use Rattle.legal_journals.specs.Reports.{Batch}
use Rattle.leader_lane.specs.Judge.{bucket_closed, reports_in, closes_in, is_bucket, is_closed, Env, judge_known, judge_report}
use Rattle.leader_lane.specs.Sound.{IsPlace, opener_of, OpensAre, Sound}
use Rattle.leader_lane.proofs.JudgeLaws.{any_of}

mem_cases : {A : Type 0} (x : A) (xs ys : List A) → Mem x (xs ++ ys) → Mem x xs ⊎ Mem x ys
mem_cases x [] ys m = inr m
mem_cases x (y ∷ xs) ys (inl e) = inl (inl e)
mem_cases x (y ∷ xs) ys (inr m) = ⊎_elim (λ (n : Mem x xs). inl (inr n)) (λ (n : Mem x ys). inr n) (mem_cases x xs ys m)

pub mem_left : {A : Type 0} (x : A) (xs ys : List A) → Mem x xs → Mem x (xs ++ ys)
mem_left x [] ys m = absurd m
mem_left x (y ∷ xs) ys (inl e) = inl e
mem_left x (y ∷ xs) ys (inr m) = inr (mem_left x xs ys m)

pub mem_last : {A : Type 0} (x : A) (xs : List A) → Mem x (xs ++ x ∷ [])
mem_last x [] = inl refl
mem_last x (y ∷ xs) = inr (mem_last x xs)

-- one record more, whose Open fits
pub opens_more : (place : Place) (l : List Record) (y : Record) → OpensAre place l → ((n : ℕ) → lanes_in y ≡ Some n → n ≡ place.lanes) → OpensAre place (l ++ y ∷ [])
opens_more place l y all one x n m e =
    ⊎_elim (λ (o : Mem x l). all x n o e) (λ (o : Mem x (y ∷ [])). ⊎_elim (λ (is : x ≡ y). one n (sym (ap lanes_in is) ∙ e)) (λ (none : Mem x []). absurd none) o) (mem_cases x l (y ∷ []) m)

within : (n k : ℕ) → n ≤ k → nat_le n k ≡ true
within n k h = go (nat_le n k) refl where
  go : (b : Bool) → nat_le n k ≡ b → b ≡ true
  go true e = refl
  go false e = let lt = leb-false n k e in absurd (omega arith)

pub sound_more : (place : Place) (l : List Record) (x : Record) → Sound place l → May Leader (Lane place.lane) x (reverse l) → ((n : ℕ) → lanes_in x ≡ Some n → n ≡ place.lanes) → Sound place (l ++ x ∷ [])
sound_more place l x s may named = record {
  legal = (legal_grown Leader (Lane place.lane) l x).1 (s.legal, may);
  lanes = opens_more place l x s.lanes named;
}

no_later : (g : Format) → byte_of_format g ≤ byte_of_format Two
no_later One = omega arith
no_later Two = omega arith

pub open_may : (place : Place) (l : List Record) → IsPlace place → Sound place l → May Leader (Lane place.lane) (opener_of place) (reverse l)
open_may place l is s =
    let few = is.few_lanes in
    let mine = is.own_lane in (
      and_from (nat_le 0 place.lanes && nat_le place.lanes 255) (nat_le 0 place.lane && nat_le place.lane 255)
          (and_from (nat_le 0 place.lanes) (nat_le place.lanes 255) (within 0 place.lanes (omega arith)) (within place.lanes 255 (omega arith)))
          (and_from (nat_le 0 place.lane) (nat_le place.lane 255) (within 0 place.lane (omega arith)) (within place.lane 255 (omega arith))),
      (λ none. absurd (cc none)),
      (((is.some_lane, is.few_lanes, (λ x n m e. s.lanes x n (Mem-from_reverse x l m) e)), (λ x g m e. no_later g)), refl, is.own_lane),
    )

sound_times : (place : Place) (n : ℕ) (l : List Record) → IsPlace place → Sound place l → Sound place (l ++ replicate n (opener_of place))
sound_times place zero l is s = subst (λ (m : List Record). Sound place m) (sym (append-nil l)) s
sound_times place (suc n) l is s =
    subst (λ (m : List Record). Sound place m) (append_assoc l (opener_of place ∷ []) (replicate n (opener_of place)))
    (sound_times place n (l ++ opener_of place ∷ []) is (sound_more place l (opener_of place) s (open_may place l is s) (λ k e. cc e)))

pub sound_opens : (place : Place) (a b : List Record) → IsPlace place → Opens (opener_of place) a b → Sound place a → Sound place b
sound_opens place a b is (n, e) s = subst (λ (m : List Record). Sound place m) (sym e) (sound_times place n a is s)

pub sound_front : (place : Place) (a b : List Record) → Sound place (a ++ b) → Sound place a
sound_front place a b s = record {
  legal = older_legal Leader (Lane place.lane) (reverse b) (reverse a) (subst (λ (m : List Record). IsLegal Leader (Lane place.lane) m) (reverse-append a b) s.legal);
  lanes = λ x n m e. s.lanes x n (mem_left x a b m) e;
}

pub sound_allowed : (place : Place) (l : List Record) → Sound place l → IsTrue (list_all record_.allowed l)
sound_allowed place l s = all_told record_.allowed l (λ x m. legal_allowed Leader (Lane place.lane) (reverse l) x s.legal (Mem-reverse x l m))

opens_some : (x : Record) (n : ℕ) (l : List Record) → Mem x l → lanes_in x ≡ Some n → 1 ≤ opens l
opens_some x n [] m e = absurd m
opens_some x n (y ∷ l) (inl is) e = let a = ap (λ (o : Option ℕ). count_some o (opens l)) (sym (ap lanes_in is) ∙ e) in omega arith
opens_some x n (y ∷ l) (inr m) e = go (lanes_in y) (opens_some x n l m e) where
  go : (o : Option ℕ) → 1 ≤ opens l → 1 ≤ count_some o (opens l)
  go None h = h
  go (Some k) h = omega arith

-- ---- an upload that is added

none_any : {A : Type 0} (p : A → Bool) (xs : List A) → find p xs ≡ None → list_any p xs ≡ false
none_any {A} p [] e = refl
none_any {A} p (x ∷ xs) e = go (p x) refl e (none_any p xs) where
  go : (b : Bool) → p x ≡ b → cond b (Some x) (find p xs) ≡ None → (find p xs ≡ None → list_any p xs ≡ false) → list_any p (x ∷ xs) ≡ false
  go true is none rec = absurd (cc none)
  go false is none rec = rw is (rec none)

-- a report that is added isn't known, and its bucket isn't closed
judged_added : (known : Option (List ℕ)) (moment expires : Option ℕ) (closed : Bool) (bytes : List ℕ) (time : ℕ) → judged known moment expires closed bytes time ≡ Added → (known ≡ None) × (closed ≡ false)
judged_added known moment expires closed bytes time e = go known (is_known_as known bytes) (is_early moment time) (is_expired moment expires) closed e where
  go : (k : Option (List ℕ)) (a b c d : Bool)
      → (if a then Again else (if b then Barred cause.Early else (if c then Barred cause.Expired else (if is_some k then Barred cause.Conflict else (if d then Barred cause.Collected else Added))))) ≡ Added → (k ≡ None) × (d ≡ false)
  go k true b c d e = absurd (cc e)
  go k false true c d e = absurd (cc e)
  go k false false true d e = absurd (cc e)
  go (Some k) false false false d e = absurd (cc e)
  go None false false false true e = absurd (cc e)
  go None false false false false e = (refl, refl)

found_none : (o : Option Report) → option_map report.spell o ≡ None → o ≡ None
found_none None e = refl
found_none (Some r) e = absurd (cc e)

-- what is known of a report that is added: its task, that no other has its name and identifier, and that its bucket isn't closed
pub record IsAdded (env : Env) (closed : List Batch) (accepted : List Report) (r : Report) : Type 0 where
  pub mine : lane_number r.id env.place.lanes ≡ env.place.lane
  pub task : PlainTask
  pub has : find (has_name r.name) env.tasks ≡ Some task
  pub fresh : find (has_key r.name r.id) accepted ≡ None
  pub open_ : is_closed closed r.name (batch_start r.time task.precision) ≡ false

mine_added : (b : Bool) (j : Judged) → (if b then j else Barred cause.Task) ≡ Added → (b ≡ true) × (j ≡ Added)
mine_added true j e = (refl, e)
mine_added false j e = absurd (cc e)

task_added : (env : Env) (closed : List Batch) (accepted : List Report) (u : Upload) (r : Report) (o : Option PlainTask) → lane_number r.id env.place.lanes ≡ env.place.lane → find (has_name r.name) env.tasks ≡ o
    → option_map_or (judge_known closed accepted u r) o (Barred cause.Task) ≡ Added → IsAdded env closed accepted r
task_added env closed accepted u r None mine is e = absurd (cc e)
task_added env closed accepted u r (Some t) mine is e =
    let a = judged_added (known_in accepted r.name r.id) u.moment t.expires (is_closed closed r.name (batch_start r.time t.precision)) u.report r.time e in
    record { mine = mine; task = t; has = is; fresh = found_none (find (has_key r.name r.id) accepted) a.0; open_ = a.1 }

pub is_added : (env : Env) (closed : List Batch) (accepted : List Report) (u : Upload) (r : Report) → judge_report env closed accepted u r ≡ Added → IsAdded env closed accepted r
is_added env closed accepted u r e =
    let m = mine_added (lane_number r.id env.place.lanes == env.place.lane) (option_map_or (judge_known closed accepted u r) (find (has_name r.name) env.tasks) (Barred cause.Task)) e in
    task_added env closed accepted u r (find (has_name r.name) env.tasks) ((Decides-eqb (lane_number r.id env.place.lanes) env.place.lane).0 m.0) refl m.1

key_of : (a r : Report) → a.name ≡ r.name → a.id ≡ r.id → has_key r.name r.id a ≡ true
key_of a r n i = and_from (bytes_eq a.name r.name) (bytes_eq a.id r.id) ((bytes_eq-Decides a.name r.name).1 n) ((bytes_eq-Decides a.id r.id).1 i)

pub accept_may : (env : Env) (l : List Record) (r : Report) → IsPlace env.place → Mem (opener_of env.place) l → IsTrue (report.allowed r)
    → IsAdded env (closes_in l) (reports_in l) r → May Leader (Lane env.place.lane) (Accept r) (reverse l)
accept_may env l r is opened allowed a =
    let no : list_any (has_key r.name r.id) (reports_in l) ≡ false = none_any (has_key r.name r.id) (reports_in l) a.fresh in
    let opener = Mem-reverse (opener_of env.place) l opened in (
      allowed,
      (λ _. opens_some (opener_of env.place) env.place.lanes (reverse l) opener refl),
      (
        (opener_of env.place, env.place.lanes, opener, refl, is.some_lane, a.mine),
        (λ w. false≢true (sym no ∙ any_of accept_of (has_key r.name r.id) l
            ∙ any_told (λ x. option_map_or (has_key r.name r.id) (accept_of x) false) l (Accept w.0) (Mem-from_reverse (Accept w.0) l w.1) (key_of w.0 r w.2 w.3))),
      ),
    )

-- no Close of a bucket stands where it isn't among the closed ones
pub not_closed : (l : List Record) (n : List ℕ) (s : ℕ) → is_closed (closes_in l) n s ≡ false → IsLeaderClosed n s (reverse l) → ⊥
not_closed l n s e (c, m) =
    false≢true (sym e ∙ any_of bucket_closed (is_bucket n s) l
    ∙ any_told (λ x. option_map_or (is_bucket n s) (bucket_closed x) false) l (LeaderClose n s c) (Mem-from_reverse (LeaderClose n s c) l m)
    (and_from (bytes_eq n n) (s == s) ((bytes_eq-Decides n n).1 refl) ((Decides-eqb s s).1 refl)))

accepts_allowed : (p : Report → Bool) (l : List Record) (r : Report) → IsTrue (list_all record_.allowed l) → find p (reports_in l) ≡ Some r → IsTrue (report.allowed r)
accepts_allowed p [] r all e = absurd (cc e)
accepts_allowed p (Accept q ∷ l) r all e =
    let parts = and_parts (record_.allowed (Accept q)) (list_all record_.allowed l) all in
    go (p q) e parts.0 (accepts_allowed p l r parts.1) where
      go : (b : Bool) → cond b (Some q) (find p (reports_in l)) ≡ Some r → report.allowed q ≡ true → (find p (reports_in l) ≡ Some r → IsTrue (report.allowed r)) → IsTrue (report.allowed r)
      go true is here rec = let same : q ≡ r = cc is in subst (λ (y : Report). report.allowed y ≡ true) same here
      go false is here rec = rec is
accepts_allowed p (x ∷ l) r all e = accepts_allowed p l r (and_parts (record_.allowed x) (list_all record_.allowed l) all).1 e

pub if_found : (p : Report → Bool) (l : List Record) (o : Option (Bor Report)) → IsTrue (list_all record_.allowed l) → option_map (λ r. r.now) o ≡ find p (reports_in l) → IfSome o (λ r. IsTrue (report.allowed r.now))
if_found p l None all e = tt
if_found p l (Some r) all e = accepts_allowed p l r.now all (sym e)
