-- What stands in the outcomes that a lane told of a bucket.
use Rattle.std.proofs.Common.{◌≡◌, ℕ, List, [], ◌∷◌, Bool, true, false, ◌&&◌, Option, Some, None, refl, ap, sym, ◌∙◌, inl, inr, subst}
use Rattle.std.specs.Prelude.{if◌then◌else◌}
use Rattle.std.specs.Str.{bytes_eq}
use Rattle.std.proofs.lemmas.Bool.{eqb-true, eq-eqb, and_parts, and_from}
use Rattle.std.proofs.lemmas.Slice.Eq.{bytes_eq-Decides}
use Rattle.dap_batch.specs.Group.{batch_start}
use Rattle.dap_messages.specs.declared.body.Half.{Half}
use Rattle.dap_messages.specs.declared.body.Step.{Step}
use Rattle.dap_messages.specs.declared.item.Tagged.{Tagged}
use Rattle.dap_messages.specs.declared.job.JobNo.{JobNo}
use Rattle.dap_messages.specs.declared.report.Report.{Report}
use Rattle.dap_messages.specs.Items.{ids_of}
use Rattle.dap_tasks.specs.Task.{PlainTask}
use Rattle.lane_records.specs.declared.outcome.Outcome.{Outcome}
use Rattle.lane_records.specs.declared.record.Record.{Record}
use Rattle.lane_records.specs.declared.record.Record.TheVariants.{Accept, Continue, Finish, Start, Commit}
use Rattle.legal_journals.specs.History.{Mem, first}
use Rattle.dap_messages.specs.Jobs.{is_same_job}
use Rattle.lane_records.specs.Records as records
use Rattle.dap_messages.specs.JobLaws.{same_job-Decides}
use Rattle.dap_agree.specs.Lists.{Distinct, Sub}
use Rattle.legal_journals.specs.JobReports.{Has}
use Rattle.legal_journals.specs.Told.{name_for, name_if, time_for, time_if, start_for, start_if, half_time, is_time, of_bucket, is_name, finish_told, leader_told, of_start, commit_told, helper_told}
use Rattle.dap_agree.proofs.Items.{start_distinct}
use Rattle.dap_agree.proofs.Journals.{LeaderLegal, HelperLegal, older_leader, older_helper, continue_one, accept_one, finish_has, continue_has, start_one, commit_has}
use Rattle.dap_agree.proofs.Lists.{mem_right, mem_left, mem_cases, has_sub, tag_in, tag_of, tagged_one, first_is, first_at}

-- ---- what the readers read

some_is : {A : Type 0} (x y : A) → Some x ≡ Some y → x ≡ y
some_is x y e = cc

pub accept_only : (x : Record) (r : Report) → records.accept_of x ≡ Some r → x ≡ Accept r
accept_only (Accept q) r e = ap Accept (some_is q r e)
accept_only _ r e = absurd cc

pub continue_only : (x : Record) (p : List ℕ × (JobNo × List (Tagged Step))) → records.continue_of x ≡ Some p → x ≡ Continue p.0 p.1.0 p.1.1
continue_only (Continue n j xs) p e = ap (λ (q : List ℕ × (JobNo × List (Tagged Step))). Continue q.0 q.1.0 q.1.1) (some_is (n, (j, xs)) p e)
continue_only _ p e = absurd cc

pub finish_only : (x : Record) (p : JobNo × List (Tagged Outcome)) → records.finish_of x ≡ Some p → x ≡ Finish p.0 p.1
finish_only (Finish j outs) p e = ap (λ (q : JobNo × List (Tagged Outcome)). Finish q.0 q.1) (some_is (j, outs) p e)
finish_only _ p e = absurd cc

pub start_only : (x : Record) (p : JobNo × (List ℕ × List (Tagged Half))) → records.start_of x ≡ Some p → x ≡ Start p.0 p.1.0 p.1.1
start_only (Start j n hs) p e = ap (λ (q : JobNo × (List ℕ × List (Tagged Half))). Start q.0 q.1.0 q.1.1) (some_is (j, (n, hs)) p e)
start_only _ p e = absurd cc

pub commit_only : (x : Record) (p : JobNo × List (Tagged Outcome)) → records.commit_of x ≡ Some p → x ≡ Commit p.0 p.1
commit_only (Commit j outs) p e = ap (λ (q : JobNo × List (Tagged Outcome)). Commit q.0 q.1) (some_is (j, outs) p e)
commit_only _ p e = absurd cc

-- ---- tests

pub same_bytes : (a b : List ℕ) → bytes_eq a b ≡ true → a ≡ b
same_bytes a b e = (bytes_eq-Decides a b).0 e

pub bytes_same : (a b : List ℕ) → a ≡ b → bytes_eq a b ≡ true
bytes_same a b e = (bytes_eq-Decides a b).1 e

pub same_job_is : (j k : JobNo) → is_same_job j k ≡ true → j ≡ k
same_job_is j k e = (same_job-Decides j k).0 e

pub same_job_refl : (j : JobNo) → is_same_job j j ≡ true
same_job_refl j = (same_job-Decides j j).1 refl

-- a test that gives a value passed, and gave that value
pub if_some : {A : Type 0} (b : Bool) (x y : A) → (if b then Some x else None) ≡ Some y → (b ≡ true) × (x ≡ y)
if_some true x y e = (refl, some_is x y e)
if_some false x y e = absurd (cc)

pub if_true : {A : Type 0} (b : Bool) (x y : A) → b ≡ true → (if b then x else y) ≡ x
if_true true x y e = refl
if_true false x y e = absurd (cc)

-- ---- lookups

pub name_if_at : (j : JobNo) (x : Record) (n : List ℕ) → name_if j x ≡ Some n → (xs : List (Tagged Step)) × (x ≡ Continue n j xs)
name_if_at j x n e = go (records.continue_of x) refl e
  where
    go : (o : Option (List ℕ × (JobNo × List (Tagged Step)))) → records.continue_of x ≡ o → name_for j o ≡ Some n → (xs : List (Tagged Step)) × (x ≡ Continue n j xs)
    go None r e = absurd (cc)
    go (Some p) r e =
        let a = if_some (is_same_job p.1.0 j) p.0 n e in
        let b : p.1.0 ≡ j = same_job_is p.1.0 j a.0 in
        (p.1.1, continue_only x p r ∙ ap (λ z. Continue z p.1.0 p.1.1) a.1 ∙ ap (λ z. Continue n z p.1.1) b)

pub time_if_at : (n id : List ℕ) (x : Record) (time : ℕ) → time_if n id x ≡ Some time → (r : Report) × (x ≡ Accept r) × (r.name ≡ n) × (r.id ≡ id) × (r.time ≡ time)
time_if_at n id x time e = go (records.accept_of x) refl e
  where
    go : (o : Option Report) → records.accept_of x ≡ o → time_for n id o ≡ Some time → (r : Report) × (x ≡ Accept r) × (r.name ≡ n) × (r.id ≡ id) × (r.time ≡ time)
    go None q e = absurd (cc)
    go (Some r) q e =
        let a = if_some (bytes_eq r.name n && bytes_eq r.id id) r.time time e in
        let b = and_parts (bytes_eq r.name n) (bytes_eq r.id id) a.0 in
        (r, accept_only x r q, same_bytes r.name n b.0, same_bytes r.id id b.1, a.1)

pub start_if_at : (j : JobNo) (x : Record) (y : List ℕ × List (Tagged Half)) → start_if j x ≡ Some y → x ≡ Start j y.0 y.1
start_if_at j x y e = go (records.start_of x) refl e
  where
    go : (o : Option (JobNo × (List ℕ × List (Tagged Half)))) → records.start_of x ≡ o → start_for j o ≡ Some y → x ≡ Start j y.0 y.1
    go None r e = absurd (cc)
    go (Some p) r e =
        let a = if_some (is_same_job p.0 j) p.1 y e in
        start_only x p r ∙ ap (λ z. Start z p.1.0 p.1.1) (same_job_is p.0 j a.0) ∙ ap (λ (z : List ℕ × List (Tagged Half)). Start j z.0 z.1) a.1

pub half_time_at : (id : List ℕ) (h : Tagged Half) (time : ℕ) → half_time id h ≡ Some time → (h.id ≡ id) × (h.body.time ≡ time)
half_time_at id h time e = let p = if_some (bytes_eq h.id id) h.body.time time e in (same_bytes h.id id p.0, p.1)

-- ---- the outcomes of a bucket

pub bucket_in : (t : PlainTask) (s : ℕ) (time : List ℕ → Option ℕ) (outs : List (Tagged Outcome)) (o : Tagged Outcome) →
    Mem o outs → is_time t.precision s (time o.id) ≡ true → Mem o (of_bucket t.precision s time outs)
bucket_in t s time [] o p e = elim p [ ]
bucket_in t s time (x ∷ outs) o p e = go (is_time t.precision s (time x.id)) refl p (λ q. bucket_in t s time outs o q e)
  where
    go : (b : Bool) → is_time t.precision s (time x.id) ≡ b → Mem o (x ∷ outs) → (Mem o outs → Mem o (of_bucket t.precision s time outs)) →
        Mem o (if b then x ∷ of_bucket t.precision s time outs else of_bucket t.precision s time outs)
    go true q (inl d) k = inl d
    go true q (inr d) k = inr (k d)
    go false q (inl d) k = let bad : false ≡ true = sym q ∙ ap (λ (z : Tagged Outcome). is_time t.precision s (time z.id)) (sym d) ∙ e in absurd (cc)
    go false q (inr d) k = k d

pub bucket_out : (t : PlainTask) (s : ℕ) (time : List ℕ → Option ℕ) (outs : List (Tagged Outcome)) (o : Tagged Outcome) →
    Mem o (of_bucket t.precision s time outs) → Mem o outs × (is_time t.precision s (time o.id) ≡ true)
bucket_out t s time [] o p = elim p [ ]
bucket_out t s time (x ∷ outs) o p = go (is_time t.precision s (time x.id)) refl p (λ q. bucket_out t s time outs o q)
  where
    go : (b : Bool) → is_time t.precision s (time x.id) ≡ b → Mem o (if b then x ∷ of_bucket t.precision s time outs else of_bucket t.precision s time outs) →
        (Mem o (of_bucket t.precision s time outs) → Mem o outs × (is_time t.precision s (time o.id) ≡ true)) → Mem o (x ∷ outs) × (is_time t.precision s (time o.id) ≡ true)
    go true q (inl d) k = (inl d, ap (λ (z : Tagged Outcome). is_time t.precision s (time z.id)) d ∙ q)
    go true q (inr d) k = let r = k d in (inr r.0, r.1)
    go false q d k = let r = k d in (inr r.0, r.1)

pub bucket_distinct : (t : PlainTask) (s : ℕ) (time : List ℕ → Option ℕ) (outs : List (Tagged Outcome)) →
    Distinct (ids_of outs) → Distinct (ids_of (of_bucket t.precision s time outs))
bucket_distinct t s time [] d = tt
bucket_distinct t s time (x ∷ outs) d = go (is_time t.precision s (time x.id)) (bucket_distinct t s time outs d.1)
  where
    go : (b : Bool) → Distinct (ids_of (of_bucket t.precision s time outs)) → Distinct (ids_of (if b then x ∷ of_bucket t.precision s time outs else of_bucket t.precision s time outs))
    go true k = (
      (λ p. let o = tag_of (of_bucket t.precision s time outs) x.id p in
          d.0 (subst (λ z. Mem z (ids_of outs)) o.2 (tag_in outs o.0 (bucket_out t s time outs o.0 o.1).0))),
      k,
    )
    go false k = k

pub time_known : (t : PlainTask) (s : ℕ) (o : Option ℕ) → is_time t.precision s o ≡ true → (time : ℕ) × (o ≡ Some time) × (batch_start time t.precision ≡ s)
time_known t s None e = absurd (cc)
time_known t s (Some time) e = (time, refl, eqb-true (batch_start time t.precision) s e)

pub time_is : (t : PlainTask) (s time : ℕ) (o : Option ℕ) → o ≡ Some time → batch_start time t.precision ≡ s → is_time t.precision s o ≡ true
time_is t s time o e b = ap (is_time t.precision s) e ∙ eq-eqb (batch_start time t.precision) s b

pub is_name_at : (n : List ℕ) (o : Option (List ℕ)) → is_name n o ≡ true → o ≡ Some n
is_name_at n None e = absurd (cc)
is_name_at n (Some m) e = ap Some (same_bytes m n e)

-- ---- a leader's lane

-- the name of a job, where its Continue stands in a legal list L of which k is a part
pub name_found : (L k : List Record) (n : List ℕ) (j : JobNo) (xs ys : List (Tagged Step)) (n' : List ℕ) → LeaderLegal L → Sub k L →
    Mem (Continue n' j ys) k → Mem (Continue n j xs) L → first (name_if j) k ≡ Some n
name_found L k n j xs ys n' h s p q =
    first_is (name_if j) k n (Continue n' j ys) p
    (if_true (is_same_job j j) (Some n') None (same_job_refl j) ∙ ap Some (continue_one L j n' n ys xs h (s (Continue n' j ys) p) q).0)
    (λ y c r e. let a = name_if_at j y c e in
    (continue_one L j c n a.0 xs h (s (Continue c j a.0) (subst (λ z. Mem z k) a.1 r)) q).0)

pub time_found : (L k : List Record) (n : List ℕ) (r : Report) → LeaderLegal L → Sub k L → Has n r k → first (time_if n r.id) k ≡ Some r.time
time_found L k n r h s p =
    first_is (time_if n r.id) k r.time (Accept r) p.0
    (if_true (bytes_eq r.name n && bytes_eq r.id r.id) (Some r.time) None
    (and_from (bytes_eq r.name n) (bytes_eq r.id r.id) (bytes_same r.name n p.1) (bytes_same r.id r.id refl)))
    (λ y c q e. let a = time_if_at n r.id y c e in
    sym a.4 ∙ ap (λ (z : Report). z.time) (accept_one L n a.0 r h (s (Accept a.0) (subst (λ z. Mem z k) a.1 q), a.2) (has_sub k L n r s p) a.3))

-- the outcome of a Finish, under the name of its Continue and in the bucket of its report, is told
pub told_in : (t : PlainTask) (n : List ℕ) (s : ℕ) (L k : List Record) (j : JobNo) (xs : List (Tagged Step)) (outs : List (Tagged Outcome))
    (o : Tagged Outcome) (r : Report) → LeaderLegal L → LeaderLegal k → Sub k L →
    Mem (Finish j outs) k → Mem (Continue n j xs) L → Mem o outs → Has n r L → r.id ≡ o.id → batch_start r.time t.precision ≡ s →
    Mem o (leader_told t.precision n s k)
told_in t n s L [] j xs outs o r h g u p c q a e b = elim p [ ]
told_in t n s L (x ∷ k) j xs outs o r h g u (inr p) c q a e b =
    mem_right (finish_told t.precision n s k (records.finish_of x)) (leader_told t.precision n s k) o
    (told_in t n s L k j xs outs o r h (older_leader x k g) (λ y z. u y (inr z)) p c q a e b)
told_in t n s L (x ∷ k) j xs outs o r h g u (inl p) c q a e b =
    mem_left (finish_told t.precision n s k (records.finish_of x)) (leader_told t.precision n s k) o (subst (λ z. Mem o (finish_told t.precision n s k (records.finish_of z))) p here)
  where
    sub : Sub k L
    sub = λ y z. u y (inr z)

    has : (n' : List ℕ) × (ys : List (Tagged Step)) × Mem (Continue n' j ys) (x ∷ k) × (ids_of ys ≡ ids_of outs)
    has = finish_has (x ∷ k) j outs g (inl p)

    con : Mem (Continue has.0 j has.1) k
    con = elim has.2 [ inl d ↦ (let bad : Continue has.0 j has.1 ≡ Finish j outs = d ∙ sym p in absurd (cc)) | inr z ↦ z ]

    named : is_name n (first (name_if j) k) ≡ true
    named = ap (is_name n) (name_found L k n j xs has.1 has.0 h sub con c) ∙ bytes_same n n refl

    names : has.0 ≡ n
    names = (continue_one L j has.0 n has.1 xs h (sub (Continue has.0 j has.1) con) c).0

    there : (r' : Report) × Has n r' k × (r'.id ≡ o.id)
    there = continue_has k n j has.1 o.id (older_leader x k g) (subst (λ z. Mem (Continue z j has.1) k) names con)
        (subst (λ z. Mem o.id z) (sym has.3) (tag_in outs o q))

    same : there.0 ≡ r
    same = accept_one L n there.0 r h (has_sub k L n there.0 sub there.1) a (there.2 ∙ sym e)

    acc : Has n r k
    acc = subst (λ z. Has n z k) same there.1

    timed : first (time_if n o.id) k ≡ Some r.time
    timed = subst (λ z. first (time_if n z) k ≡ Some r.time) e (time_found L k n r h sub acc)

    inside : Mem o (of_bucket t.precision s (λ id. first (time_if n id) k) outs)
    inside = bucket_in t s (λ id. first (time_if n id) k) outs o q (time_is t s r.time (first (time_if n o.id) k) timed b)

    here : Mem o (if is_name n (first (name_if j) k) then of_bucket t.precision s (λ id. first (time_if n id) k) outs else [])
    here = subst (λ z. Mem o z) (sym (if_true (is_name n (first (name_if j) k)) (of_bucket t.precision s (λ id. first (time_if n id) k) outs) [] named)) inside

-- where an outcome that is told stands
abbrev pub FromFinish : PlainTask → List ℕ → ℕ → List Record → Tagged Outcome → Type 0
FromFinish t n s k o =
    (j : JobNo) × (outs : List (Tagged Outcome)) × (xs : List (Tagged Step)) × (r : Report)
    × Mem (Finish j outs) k × Mem o outs × Mem (Continue n j xs) k × Has n r k × (r.id ≡ o.id) × (batch_start r.time t.precision ≡ s)

pub from_older : (t : PlainTask) (n : List ℕ) (s : ℕ) (x : Record) (k : List Record) (o : Tagged Outcome) → FromFinish t n s k o → FromFinish t n s (x ∷ k) o
from_older t n s x k o f = (f.0, f.1, f.2, f.3, inr f.4, f.5, inr f.6, (inr f.7.0, f.7.1), f.8, f.9)

pub told_out : (t : PlainTask) (n : List ℕ) (s : ℕ) (k : List Record) (o : Tagged Outcome) → Mem o (leader_told t.precision n s k) → FromFinish t n s k o
told_out t n s [] o p = elim p [ ]
told_out t n s (x ∷ k) o p =
    elim (mem_cases (finish_told t.precision n s k (records.finish_of x)) (leader_told t.precision n s k) o p)
    [ inl q ↦ by_reader (records.finish_of x) refl q | inr q ↦ from_older t n s x k o (told_out t n s k o q) ]
  where
    here : (j : JobNo) (outs : List (Tagged Outcome)) → x ≡ Finish j outs → (b : Bool) → is_name n (first (name_if j) k) ≡ b →
        Mem o (if b then of_bucket t.precision s (λ id. first (time_if n id) k) outs else []) → FromFinish t n s (x ∷ k) o
    here j outs w false e q = elim q [ ]
    here j outs w true e q =
        let a = first_at (name_if j) k n (is_name_at n (first (name_if j) k) e) in
        let c = name_if_at j a.0 n a.2 in
        let b = bucket_out t s (λ id. first (time_if n id) k) outs o q in
        let d = time_known t s (first (time_if n o.id) k) b.1 in
        let f = first_at (time_if n o.id) k d.0 d.1 in
        let g = time_if_at n o.id f.0 d.0 f.2 in (
          j,
          outs,
          c.0,
          g.0,
          inl (sym w),
          b.0,
          inr (subst (λ z. Mem z k) c.1 a.1),
          (inr (subst (λ z. Mem z k) g.1 f.1), g.2),
          g.3,
          ap (λ z. batch_start z t.precision) g.4 ∙ d.2,
        )

    by_reader : (y : Option (JobNo × List (Tagged Outcome))) → records.finish_of x ≡ y → Mem o (finish_told t.precision n s k y) → FromFinish t n s (x ∷ k) o
    by_reader None r q = elim q [ ]
    by_reader (Some y) r q = here y.0 y.1 (finish_only x y r) (is_name n (first (name_if y.0) k)) refl q

-- ---- a helper's lane

abbrev pub the_pair : List ℕ → List (Tagged Half) → List ℕ × List (Tagged Half)
the_pair n hs = (n, hs)

pub start_found : (L k : List Record) (j : JobNo) (n : List ℕ) (hs : List (Tagged Half)) → HelperLegal L → Sub k L → Mem (Start j n hs) k →
    first (start_if j) k ≡ Some (n, hs)
start_found L k j n hs h s p =
    first_is (start_if j) k (n, hs) (Start j n hs) p
    (if_true (is_same_job j j) (Some (n, hs)) None (same_job_refl j))
    (λ y c q e. let a = start_if_at j y c e in
    let b = start_one L j c.0 n c.1 hs h (s (Start j c.0 c.1) (subst (λ z. Mem z k) a q)) (s (Start j n hs) p) in
    ap (λ z. the_pair z c.1) b.0 ∙ ap (λ z. the_pair n z) b.1)

pub half_found : (hs : List (Tagged Half)) (x : Tagged Half) → Distinct (ids_of hs) → Mem x hs → first (half_time x.id) hs ≡ Some x.body.time
half_found hs x d p =
    first_is (half_time x.id) hs x.body.time x p (if_true (bytes_eq x.id x.id) (Some x.body.time) None (bytes_same x.id x.id refl))
    (λ y c q e. let a = half_time_at x.id y c e in sym a.1 ∙ ap (λ (z : Tagged Half). z.body.time) (tagged_one hs y x d q p a.0))

pub helper_in : (t : PlainTask) (n : List ℕ) (s : ℕ) (k : List Record) (j : JobNo) (hs : List (Tagged Half)) (outs : List (Tagged Outcome))
    (o : Tagged Outcome) (x : Tagged Half) (L : List Record) → HelperLegal L → HelperLegal k → Sub k L →
    Mem (Commit j outs) k → Mem (Start j n hs) L → Mem o outs → Mem x hs → x.id ≡ o.id → batch_start x.body.time t.precision ≡ s →
    Mem o (helper_told t.precision n s k)
helper_in t n s [] j hs outs o x L h g u p c q a e b = elim p [ ]
helper_in t n s (y ∷ k) j hs outs o x L h g u (inr p) c q a e b =
    mem_right (commit_told t.precision n s k (records.commit_of y)) (helper_told t.precision n s k) o
    (helper_in t n s k j hs outs o x L h (older_helper y k g) (λ z w. u z (inr w)) p c q a e b)
helper_in t n s (y ∷ k) j hs outs o x L h g u (inl p) c q a e b =
    mem_left (commit_told t.precision n s k (records.commit_of y)) (helper_told t.precision n s k) o (subst (λ z. Mem o (commit_told t.precision n s k (records.commit_of z))) p here)
  where
    sub : Sub k L
    sub = λ z w. u z (inr w)

    has : (n' : List ℕ) × (hs' : List (Tagged Half)) × Mem (Start j n' hs') (y ∷ k) × (ids_of hs' ≡ ids_of outs)
    has = commit_has (y ∷ k) j outs g (inl p)

    st : Mem (Start j has.0 has.1) k
    st = elim has.2 [ inl d ↦ (let bad : Start j has.0 has.1 ≡ Commit j outs = d ∙ sym p in absurd (cc)) | inr z ↦ z ]

    one : (has.0 ≡ n) × (has.1 ≡ hs)
    one = start_one L j has.0 n has.1 hs h (sub (Start j has.0 has.1) st) c

    start : Mem (Start j n hs) k
    start = subst (λ z. Mem (Start j z hs) k) one.0 (subst (λ z. Mem (Start j has.0 z) k) one.1 st)

    found : first (start_if j) k ≡ Some (n, hs)
    found = start_found L k j n hs h sub start

    timed : first (half_time o.id) hs ≡ Some x.body.time
    timed = subst (λ z. first (half_time z) hs ≡ Some x.body.time) e (half_found hs x (start_distinct k j n hs (older_helper y k g) start) a)

    inside : Mem o (of_bucket t.precision s (λ id. first (half_time id) hs) outs)
    inside = bucket_in t s (λ id. first (half_time id) hs) outs o q (time_is t s x.body.time (first (half_time o.id) hs) timed b)

    here : Mem o (of_start t.precision n s (first (start_if j) k) outs)
    here = subst (λ z. Mem o (of_start t.precision n s z outs)) (sym found)
        (subst (λ z. Mem o z) (sym (if_true (bytes_eq n n) (of_bucket t.precision s (λ id. first (half_time id) hs) outs) [] (bytes_same n n refl))) inside)

abbrev pub FromCommit : PlainTask → List ℕ → ℕ → List Record → Tagged Outcome → Type 0
FromCommit t n s k o =
    (j : JobNo) × (outs : List (Tagged Outcome)) × (hs : List (Tagged Half)) × (x : Tagged Half)
    × Mem (Commit j outs) k × Mem o outs × Mem (Start j n hs) k × Mem x hs × (x.id ≡ o.id) × (batch_start x.body.time t.precision ≡ s)

pub commit_older : (t : PlainTask) (n : List ℕ) (s : ℕ) (x : Record) (k : List Record) (o : Tagged Outcome) → FromCommit t n s k o → FromCommit t n s (x ∷ k) o
commit_older t n s x k o f = (f.0, f.1, f.2, f.3, inr f.4, f.5, inr f.6, f.7, f.8, f.9)

pub helper_out : (t : PlainTask) (n : List ℕ) (s : ℕ) (k : List Record) (o : Tagged Outcome) → Mem o (helper_told t.precision n s k) → FromCommit t n s k o
helper_out t n s [] o p = elim p [ ]
helper_out t n s (x ∷ k) o p =
    elim (mem_cases (commit_told t.precision n s k (records.commit_of x)) (helper_told t.precision n s k) o p)
    [ inl q ↦ by_reader (records.commit_of x) refl q | inr q ↦ commit_older t n s x k o (helper_out t n s k o q) ]
  where
    there : (j : JobNo) (outs : List (Tagged Outcome)) → x ≡ Commit j outs → (y : List ℕ × List (Tagged Half)) → first (start_if j) k ≡ Some y →
        (b : Bool) → bytes_eq y.0 n ≡ b → Mem o (if b then of_bucket t.precision s (λ id. first (half_time id) y.1) outs else []) → FromCommit t n s (x ∷ k) o
    there j outs w y e false f q = elim q [ ]
    there j outs w y e true f q =
        let a = first_at (start_if j) k y e in
        let st : Mem (Start j y.0 y.1) k = subst (λ z. Mem z k) (start_if_at j a.0 y a.2) a.1 in
        let b = bucket_out t s (λ id. first (half_time id) y.1) outs o q in
        let d = time_known t s (first (half_time o.id) y.1) b.1 in
        let v = first_at (half_time o.id) y.1 d.0 d.1 in
        let g = half_time_at o.id v.0 d.0 v.2 in (
          j,
          outs,
          y.1,
          v.0,
          inl (sym w),
          b.0,
          inr (subst (λ z. Mem (Start j z y.1) k) (same_bytes y.0 n f) st),
          v.1,
          g.0,
          ap (λ z. batch_start z t.precision) g.1 ∙ d.2,
        )

    here : (j : JobNo) (outs : List (Tagged Outcome)) → x ≡ Commit j outs → (y : Option (List ℕ × List (Tagged Half))) → first (start_if j) k ≡ y →
        Mem o (of_start t.precision n s y outs) → FromCommit t n s (x ∷ k) o
    here j outs w None e q = elim q [ ]
    here j outs w (Some y) e q = there j outs w y e (bytes_eq y.0 n) refl q

    by_reader : (y : Option (JobNo × List (Tagged Outcome))) → records.commit_of x ≡ y → Mem o (commit_told t.precision n s k y) → FromCommit t n s (x ∷ k) o
    by_reader None r q = elim q [ ]
    by_reader (Some y) r q = here y.0 y.1 (commit_only x y r) (first (start_if y.0) k) refl q
