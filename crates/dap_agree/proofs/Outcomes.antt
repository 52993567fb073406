-- What legal lanes that agree say of a task's reports.
use Rattle.std.proofs.Common.{◌≡◌, ℕ, List, [], ◌∷◌, ◌++◌, length, map, filter, Bool, true, false, cond, ◌&&◌, is_some, is_none, Option, Some, None, refl, ap, sym, ◌∙◌, inl, inr, subst, nat_eq}
use Rattle.std.specs.Prelude.{if◌then◌else◌}
use Rattle.std.specs.Str.{bytes_eq}
use Rattle.std.proofs.lemmas.Bool.{eqb-true, eq-eqb, and_parts, and_from}
use Rattle.vdaf_api.specs.Functions.{Functions}
use Rattle.vdaf_api.specs.Totals.{total}
use Rattle.vdaf_api.specs.Vectors.{SpaceLaws}
use Rattle.vdaf_api.specs.Verdict.{Verdict, ok, bad, numbers_of}
use Rattle.vdaf_api.specs.declared.kind.Kind.{Kind}
use Rattle.dap_batch.specs.Group.{batch_start}
use Rattle.dap_messages.specs.declared.body.Half.{Half}
use Rattle.dap_messages.specs.declared.body.Step.{Step}
use Rattle.dap_messages.specs.declared.item.Tagged.{Tagged}
use Rattle.dap_messages.specs.declared.job.JobNo.{JobNo}
use Rattle.dap_messages.specs.declared.report.Report.{Report}
use Rattle.dap_messages.specs.Items.{ids_of}
use Rattle.dap_tasks.specs.Task.{PlainTask}
use Rattle.dap_seal.specs.Reports as seal
use Rattle.lane_records.specs.declared.outcome.Outcome.{Outcome}
use Rattle.lane_records.specs.declared.record.Record.{Record}
use Rattle.lane_records.specs.declared.record.Record.TheVariants.{Start, Commit}
use Rattle.legal_journals.specs.History.{Mem, first}
use Rattle.lane_records.specs.Records as records
use Rattle.legal_journals.proofs.Members.{Mem-from_map}
use Rattle.dap_agree.specs.Agree.{Fronts}
use Rattle.legal_journals.specs.Told.{IsTold, AreTold, start_if, finished_ids, failed_ids, shares, leader_told, helper_told}
use Rattle.dap_agree.specs.Lists.{Distinct, Sub}
use Rattle.dap_agree.specs.Outcomes.{AllTold, IsOutcome, IsHelperOutcome, AreOutcomes, Block, block_named, block_of, commits_of, AreCommits, in_bucket, finished_in, failed_in, pair_of, AreNumbers, AreAccepts}
use Rattle.dap_messages.specs.Reports.{report_ids, halves}
use Rattle.legal_journals.specs.JobReports.{each_of, Has}
use Rattle.dap_agree.specs.Verdicts.{item_of, leader_part, helper_part, leader_outcome, helper_outcome}
use Rattle.dap_agree.proofs.Closed.{finish_ids, finish_distinct, commit_distinct, told_distinct, helper_distinct, SameCounts, to_helper, to_leader_by, body_of, counts_same, distinct_app}
use Rattle.dap_agree.proofs.Journals.{LeaderLegal, HelperLegal, older_helper, helper_may, accept_one, start_one, commit_has}
use Rattle.dap_agree.proofs.Lists.{the_tagged, mem_right, mem_left, mem_cases, accepted_at, tags_each, tag_in, tag_of, id_of, each_in, each_out, first_at, finished_distinct, failed_distinct}
use Rattle.dap_agree.proofs.Numbers.{good, good_out, good_in, poor, poor_out, poor_in, leader_shares, helper_shares, leader_finished, helper_finished, leader_failed_ids, ids_length}
use Rattle.dap_agree.proofs.Shown.{reports_by, distinct_reports}
use Rattle.dap_agree.proofs.Sums.{length_same, total_same}
use Rattle.dap_agree.proofs.Told.{same_bytes, bytes_same, if_true, start_if_at, start_found, commit_only, told_in, told_out}
use Rattle.dap_agree.proofs.Two.{Two, same_task, commit_known, finish_known}

-- ---- filters

pub filter_in : {A : Type 0} (p : A → Bool) (xs : List A) (x : A) → Mem x xs → p x ≡ true → Mem x (filter p xs)
filter_in p [] x m e = elim m [ ]
filter_in {A} p (y ∷ ys) x m e = go (p y) refl m (λ q. filter_in p ys x q e)
  where
    go : (b : Bool) → p y ≡ b → Mem x (y ∷ ys) → (Mem x ys → Mem x (filter p ys)) → Mem x (cond b (y ∷ filter p ys) (filter p ys))
    go true q (inl d) k = inl d
    go true q (inr d) k = inr (k d)
    go false q (inl d) k = let wrong : false ≡ true = sym q ∙ ap p (sym d) ∙ e in absurd (cc)
    go false q (inr d) k = k d

pub filter_out : {A : Type 0} (p : A → Bool) (xs : List A) (x : A) → Mem x (filter p xs) → Mem x xs × (p x ≡ true)
filter_out p [] x m = elim m [ ]
filter_out {A} p (y ∷ ys) x m = go (p y) refl m (λ q. filter_out p ys x q)
  where
    go : (b : Bool) → p y ≡ b → Mem x (cond b (y ∷ filter p ys) (filter p ys)) → (Mem x (filter p ys) → Mem x ys × (p x ≡ true)) → Mem x (y ∷ ys) × (p x ≡ true)
    go true q (inl d) k = (inl d, ap p d ∙ q)
    go true q (inr d) k = let r = k d in (inr r.0, r.1)
    go false q d k = let r = k d in (inr r.0, r.1)

pub filter_distinct : {A : Type 0} (p : A → Bool) (xs : List A) → Distinct xs → Distinct (filter p xs)
filter_distinct p [] d = tt
filter_distinct {A} p (x ∷ xs) d = go (p x) (filter_distinct p xs d.1)
  where
    go : (b : Bool) → Distinct (filter p xs) → Distinct (cond b (x ∷ filter p xs) (filter p xs))
    go true k = ((λ m. d.0 (filter_out p xs x m).0), k)
    go false k = k

-- ---- outcomes

leader_is : (f : Kind → Functions) (t : PlainTask) (r : Report) (v : Verdict) → seal.verdict_of (f t.kind) t r ≡ v → IsOutcome f t r (leader_part v)
leader_is f t r (ok a b) e = (b, e)
leader_is f t r (bad c) e = (c, e)

helper_is : (f : Kind → Functions) (t : PlainTask) (r : Report) (v : Verdict) → seal.verdict_of (f t.kind) t r ≡ v → IsHelperOutcome f t r (helper_part v)
helper_is f t r (ok a b) e = (a, e)
helper_is f t r (bad c) e = (c, e)

pub are_outcomes : (f : Kind → Functions) (fr : Fronts) (l h hh : List Record) (t : PlainTask) → Two f fr l h hh → fr.task t.name ≡ Some t → AreOutcomes f t l
are_outcomes f fr l h hh t w e = record {
  once = λ j outs p. finish_distinct l j outs w.l_legal p;
  verdicts = λ j xs outs o r c p q a name id.
      let k = finish_known f fr l h hh j t.name xs outs w p c in
      let tasks : k.0 ≡ t = same_task fr t.name k.0 t k.1 e in
      let x = each_out (leader_outcome f k.0) k.2.0 o (subst (λ z. Mem o z) k.2.5 q) in
      let ids : x.0.id ≡ r.id = sym (ap (λ (z : Tagged Outcome). z.id) x.2) ∙ sym id in
      let same : x.0 ≡ r = accept_one l t.name x.0 r w.l_legal (accepted_at t.name k.2.0 l x.0 k.2.1 x.1) (a, name) ids in
      let is : o.body ≡ leader_outcome f t r =
      ap (λ (z : Tagged Outcome). z.body) x.2 ∙ ap (λ z. leader_outcome f z x.0) tasks ∙ ap (leader_outcome f t) same in
      subst (λ z. IsOutcome f t r z) (sym is) (leader_is f t r (seal.verdict_of (f t.kind) t r) refl);
}

-- ---- commits

abbrev pub the_block : JobNo → List (Tagged Outcome) → Block
the_block j outs = record { job = j; outs = outs }

pub commits_in : (n : List ℕ) (L k : List Record) (j : JobNo) (hs : List (Tagged Half)) (outs : List (Tagged Outcome)) → HelperLegal L → HelperLegal k → Sub k L →
    Mem (Commit j outs) k → Mem (Start j n hs) L → Mem (the_block j outs) (commits_of n k)
commits_in n L [] j hs outs h g u p s = elim p [ ]
commits_in n L (x ∷ k) j hs outs h g u (inr p) s =
    mem_right (block_of n k (records.commit_of x)) (commits_of n k) (the_block j outs) (commits_in n L k j hs outs h (older_helper x k g) (λ y z. u y (inr z)) p s)
commits_in n L (x ∷ k) j hs outs h g u (inl p) s =
    mem_left (block_of n k (records.commit_of x)) (commits_of n k) (the_block j outs) (subst (λ z. Mem (the_block j outs) (block_of n k (records.commit_of z))) p here)
  where
    has : (n' : List ℕ) × (hs' : List (Tagged Half)) × Mem (Start j n' hs') (x ∷ k) × (ids_of hs' ≡ ids_of outs)
    has = commit_has (x ∷ k) j outs g (inl p)

    st : Mem (Start j has.0 has.1) k
    st = elim has.2 [ inl d ↦ (let wrong : Start j has.0 has.1 ≡ Commit j outs = d ∙ sym p in absurd (cc)) | inr z ↦ z ]

    one : (has.0 ≡ n) × (has.1 ≡ hs)
    one = start_one L j has.0 n has.1 hs h (u (Start j has.0 has.1) (inr st)) s

    found : first (start_if j) k ≡ Some (n, hs)
    found = start_found L k j n hs h (λ y z. u y (inr z)) (subst (λ z. Mem (Start j z hs) k) one.0 (subst (λ z. Mem (Start j has.0 z) k) one.1 st))

    here : Mem (the_block j outs) (block_named n (first (start_if j) k) (j, outs))
    here = subst (λ z. Mem (the_block j outs) (block_named n z (j, outs))) (sym found)
        (subst (λ z. Mem (the_block j outs) z) (sym (if_true (bytes_eq n n) (the_block j outs ∷ []) [] (bytes_same n n refl))) (inl refl))

abbrev pub Committed : List ℕ → List Record → Block → Type 0
Committed n k b = (hs : List (Tagged Half)) × Mem (Commit b.job b.outs) k × Mem (Start b.job n hs) k

pub commits_out : (n : List ℕ) (k : List Record) (b : Block) → Mem b (commits_of n k) → Committed n k b
commits_out n [] b p = elim p [ ]
commits_out n (x ∷ k) b p =
    elim (mem_cases (block_of n k (records.commit_of x)) (commits_of n k) b p)
    [ inl q ↦ by_reader (records.commit_of x) refl q | inr q ↦ (let r = commits_out n k b q in (r.0, inr r.1, inr r.2)) ]
  where
    there : (y : JobNo × List (Tagged Outcome)) → x ≡ Commit y.0 y.1 → (s : List ℕ × List (Tagged Half)) → first (start_if y.0) k ≡ Some s →
        (c : Bool) → bytes_eq s.0 n ≡ c → Mem b (if c then the_block y.0 y.1 ∷ [] else []) → Committed n (x ∷ k) b
    there y w s e false g q = elim q [ ]
    there y w s e true g (inr q) = elim q [ ]
    there y w s e true g (inl q) =
        let a = first_at (start_if y.0) k s e in
        let st : Mem (Start y.0 s.0 s.1) k = subst (λ z. Mem z k) (start_if_at y.0 a.0 s a.2) a.1 in (
          s.1,
          inl (ap (λ (z : Block). Commit z.job z.outs) q ∙ sym w),
          inr (subst (λ z. Mem (Start z n s.1) k) (ap (λ (z : Block). z.job) (sym q)) (subst (λ z. Mem (Start y.0 z s.1) k) (same_bytes s.0 n g) st)),
        )

    named : (y : JobNo × List (Tagged Outcome)) → x ≡ Commit y.0 y.1 → (s : Option (List ℕ × List (Tagged Half))) → first (start_if y.0) k ≡ s →
        Mem b (block_named n s y) → Committed n (x ∷ k) b
    named y w None e q = elim q [ ]
    named y w (Some s) e q = there y w s e (bytes_eq s.0 n) refl q

    by_reader : (y : Option (JobNo × List (Tagged Outcome))) → records.commit_of x ≡ y → Mem b (block_of n k y) → Committed n (x ∷ k) b
    by_reader None r q = elim q [ ]
    by_reader (Some y) r q = named y (commit_only x y r) (first (start_if y.0) k) refl q

jobs_app : (xs ys : List Block) → map (λ (b : Block). b.job) (xs ++ ys) ≡ map (λ (b : Block). b.job) xs ++ map (λ (b : Block). b.job) ys
jobs_app [] ys = refl
jobs_app (x ∷ xs) ys = ap (λ z. x.job ∷ z) (jobs_app xs ys)

-- the newest record's block is its own
head_block : (n : List ℕ) (x : Record) (k : List Record) (b : Block) → Mem b (block_of n k (records.commit_of x)) → x ≡ Commit b.job b.outs
head_block n x k b p = by_reader (records.commit_of x) refl p
  where
    there : (y : JobNo × List (Tagged Outcome)) → x ≡ Commit y.0 y.1 → (c : Bool) → Mem b (if c then the_block y.0 y.1 ∷ [] else []) → x ≡ Commit b.job b.outs
    there y w false q = elim q [ ]
    there y w true (inr q) = elim q [ ]
    there y w true (inl q) = w ∙ ap (λ (z : Block). Commit z.job z.outs) (sym q)

    named : (y : JobNo × List (Tagged Outcome)) → x ≡ Commit y.0 y.1 → (s : Option (List ℕ × List (Tagged Half))) → Mem b (block_named n s y) → x ≡ Commit b.job b.outs
    named y w None q = elim q [ ]
    named y w (Some s) q = there y w (bytes_eq s.0 n) q

    by_reader : (y : Option (JobNo × List (Tagged Outcome))) → records.commit_of x ≡ y → Mem b (block_of n k y) → x ≡ Commit b.job b.outs
    by_reader None r q = elim q [ ]
    by_reader (Some y) r q = named y (commit_only x y r) (first (start_if y.0) k) q

pub commits_once : (n : List ℕ) (k : List Record) → HelperLegal k → Distinct (map (λ (b : Block). b.job) (commits_of n k))
commits_once n [] g = tt
commits_once n (x ∷ k) g =
    subst (λ (z : List JobNo). Distinct z) (sym (jobs_app (block_of n k (records.commit_of x)) (commits_of n k)))
    (distinct_app (map (λ (b : Block). b.job) (block_of n k (records.commit_of x))) (map (λ (b : Block). b.job) (commits_of n k))
    (alone (records.commit_of x)) (commits_once n k (older_helper x k g)) apart)
  where
    one : (y : JobNo × List (Tagged Outcome)) (c : Bool) → Distinct (map (λ (b : Block). b.job) (if c then the_block y.0 y.1 ∷ [] else []))
    one y true = ((λ m. elim m [ ]), tt)
    one y false = tt

    named : (y : JobNo × List (Tagged Outcome)) (s : Option (List ℕ × List (Tagged Half))) → Distinct (map (λ (b : Block). b.job) (block_named n s y))
    named y None = tt
    named y (Some s) = one y (bytes_eq s.0 n)

    alone : (y : Option (JobNo × List (Tagged Outcome))) → Distinct (map (λ (b : Block). b.job) (block_of n k y))
    alone None = tt
    alone (Some y) = named y (first (start_if y.0) k)

    apart : (j : JobNo) → Mem j (map (λ (b : Block). b.job) (block_of n k (records.commit_of x))) → Mem j (map (λ (b : Block). b.job) (commits_of n k)) → ⊥
    apart j p q =
        let a = Mem-from_map (λ (b : Block). b.job) j (block_of n k (records.commit_of x)) p in
        let b = Mem-from_map (λ (b : Block). b.job) j (commits_of n k) q in
        let c = commits_out n k b.0 b.1 in
        let same : b.0.job ≡ a.0.job = sym b.2 ∙ a.2 in
        (helper_may k x (Commit a.0.job a.0.outs) g (sym (head_block n x k a.0 a.1))).2.1 (b.0.outs, subst (λ z. Mem (Commit z b.0.outs) k) same c.1)

pub are_commits : (f : Kind → Functions) (fr : Fronts) (l h : List Record) (t : PlainTask) → Two f fr l h h → fr.task t.name ≡ Some t → AllTold t.name l →
    AreCommits f t l (commits_of t.name h)
are_commits f fr l h t w e all = record {
  once = commits_once t.name h w.h_legal;
  continued = λ b p.
      let a = commits_out t.name h b p in
      let k = commit_known f fr l h h b.job t.name a.0 b.outs w a.1 a.2 in
      (each_of (item_of f k.0) k.2.0, k.2.2, tags_each (item_of f k.0) k.2.0 ∙ sym (ap (λ (z : List (Tagged Outcome)). ids_of z) k.2.3 ∙ tags_each (helper_outcome f k.0) k.2.0));
  ids_once = λ b p. commit_distinct h b.job b.outs w.h_legal (commits_out t.name h b p).1;
  verdicts = λ b o r p q a name id.
      let c = commits_out t.name h b p in
      let k = commit_known f fr l h h b.job t.name c.0 b.outs w c.1 c.2 in
      let tasks : k.0 ≡ t = same_task fr t.name k.0 t k.1 e in
      let x = each_out (helper_outcome f k.0) k.2.0 o (subst (λ z. Mem o z) k.2.3 q) in
      let ids : x.0.id ≡ r.id = sym (ap (λ (z : Tagged Outcome). z.id) x.2) ∙ sym id in
      let same : x.0 ≡ r = accept_one l t.name x.0 r w.l_legal (accepted_at t.name k.2.0 l x.0 k.2.1 x.1) (a, name) ids in
      let is : o.body ≡ helper_outcome f t r =
      ap (λ (z : Tagged Outcome). z.body) x.2 ∙ ap (λ z. helper_outcome f z x.0) tasks ∙ ap (helper_outcome f t) same in
      subst (λ z. IsHelperOutcome f t r z) (sym is) (helper_is f t r (seal.verdict_of (f t.kind) t r) refl);
  all = λ r a name.
      let told = all r a name in
      let k = finish_known f fr l h h told.0 t.name told.1 told.2 w told.5 told.3 in (
        the_block told.0 (each_of (helper_outcome f k.0) k.2.0),
        commits_in t.name h h told.0 (halves k.2.0) (each_of (helper_outcome f k.0) k.2.0) w.h_legal w.h_legal (λ x z. z) k.2.3 k.2.4,
        subst (λ z. Mem r.id z) (ap (λ (z : List (Tagged Step)). ids_of z) k.2.2 ∙ tags_each (item_of f k.0) k.2.0 ∙ sym (tags_each (helper_outcome f k.0) k.2.0)) told.4,
      );
}

-- ---- numbers

-- a told report stands in what was told
told_id : (t : PlainTask) (n : List ℕ) (s : ℕ) (l : List Record) (r : Report) → LeaderLegal l → IsTold n r.id l → Has n r l → batch_start r.time t.precision ≡ s →
    Mem r.id (ids_of (leader_told t.precision n s l))
told_id t n s l r g told acc b =
    let i : Mem r.id (ids_of told.2) = subst (λ z. Mem r.id z) (finish_ids l n told.0 told.1 told.2 g told.5 told.3) told.4 in
    let o = tag_of told.2 r.id i in
    let here : Mem o.0 (leader_told t.precision n s l) = told_in t n s l l told.0 told.1 told.2 o.0 r g g (λ x z. z) told.5 told.3 o.1 acc (sym o.2) b in
    subst (λ z. Mem z (ids_of (leader_told t.precision n s l))) o.2 (tag_in (leader_told t.precision n s l) o.0 here)

some_ok : (f : Functions) (v : Verdict) (a b : List ℕ) → v ≡ ok a b → (is_some (numbers_of f v) ≡ true)
some_ok f v a b e = ap (λ z. is_some (numbers_of f z)) e

none_bad : (f : Functions) (v : Verdict) (c : ℕ) → v ≡ bad c → (is_none (numbers_of f v) ≡ true)
none_bad f v c e = ap (λ z. is_none (numbers_of f z)) e

ok_some : (f : Functions) (v : Verdict) → is_some (numbers_of f v) ≡ true → (a b : List ℕ) × (v ≡ ok a b)
ok_some f (ok a b) e = (a, b, refl)
ok_some f (bad c) e = absurd (cc)

bad_none : (f : Functions) (v : Verdict) → is_none (numbers_of f v) ≡ true → (c : ℕ) × (v ≡ bad c)
bad_none f (ok a b) e = absurd (cc)
bad_none f (bad c) e = (c, refl)

-- the lanes' counts are the same where each accepted report of the bucket is told
pub counts_agree : (f : Kind → Functions) (fr : Fronts) (l h : List Record) (t : PlainTask) (n : List ℕ) (s : ℕ) → Two f fr l h h → fr.task n ≡ Some t → AreTold t.precision n s l →
    SameCounts (leader_told t.precision n s l) (helper_told t.precision n s h)
counts_agree f fr l h t n s w e all =
    counts_same f t n l (leader_told t.precision n s l) (helper_told t.precision n s h) (told_distinct t n s l w.l_legal)
    (helper_distinct f fr l h h t n s h w (λ x z. z) w.h_legal)
    (λ o q. to_helper f fr l h h t n s l o w e (λ y z. z) q)
    (λ o q. to_leader_by f fr l h h t n s l w w.l_legal (λ y z. z) (λ r acc time. all r acc.0 acc.1 time) o e q)

pub are_numbers : (f : Kind → Functions) (fr : Fronts) (l h : List Record) (t : PlainTask) (s : ℕ) (accepted : List Report) → SpaceLaws (f t.kind).space →
    Two f fr l h h → fr.task t.name ≡ Some t → AreTold t.precision t.name s l → AreAccepts l accepted →
    AreNumbers f t s accepted (record {
      count = length (finished_ids (leader_told t.precision t.name s l));
      rejected = length (failed_ids (leader_told t.precision t.name s l));
      leader = total (f t.kind).space (shares (leader_told t.precision t.name s l));
      helper = total (f t.kind).space (shares (helper_told t.precision t.name s h));
    })
are_numbers f fr l h t s accepted laws w e all acc =
    let n : List ℕ = t.name in
    let L = reports_by (leader_outcome f t) t.name l (leader_told t.precision t.name s l)
    (λ o z. let x = to_helper f fr l h h t t.name s l o w e (λ y v. v) z in (x.0, x.1, x.2)) in
    let H = reports_by (helper_outcome f t) t.name l (helper_told t.precision t.name s h)
    (λ o z. let x = to_leader_by f fr l h h t t.name s l w w.l_legal (λ y v. v) (λ r a time. all r a.0 a.1 time) o e z in (x.0, x.1, x.2)) in
    let l_ids : ids_of (leader_told t.precision t.name s l) ≡ report_ids L.0 = ap (λ (z : List (Tagged Outcome)). ids_of z) L.1 ∙ tags_each (leader_outcome f t) L.0 in
    let h_ids : ids_of (helper_told t.precision t.name s h) ≡ report_ids H.0 = ap (λ (z : List (Tagged Outcome)). ids_of z) H.1 ∙ tags_each (helper_outcome f t) H.0 in
    let l_done : finished_ids (leader_told t.precision t.name s l) ≡ report_ids (good f t L.0) = ap finished_ids L.1 ∙ leader_finished f t L.0 in
    let h_done : finished_ids (helper_told t.precision t.name s h) ≡ report_ids (good f t H.0) = ap finished_ids H.1 ∙ helper_finished f t H.0 in
    let l_failed : failed_ids (leader_told t.precision t.name s l) ≡ report_ids (poor f t L.0) = ap failed_ids L.1 ∙ leader_failed_ids f t L.0 in
    let distinct = told_distinct t t.name s l w.l_legal in
    let good_l : Distinct (good f t L.0) = distinct_reports (good f t L.0)
    (subst (λ (z : List (List ℕ)). Distinct z) l_done (finished_distinct (leader_told t.precision t.name s l) distinct)) in
    let good_h : Distinct (good f t H.0) = distinct_reports (good f t H.0)
    (subst (λ (z : List (List ℕ)). Distinct z) h_done (finished_distinct (helper_told t.precision t.name s h) (helper_distinct f fr l h h t t.name s h w (λ x z. z) w.h_legal))) in
    let poor_l : Distinct (poor f t L.0) = distinct_reports (poor f t L.0)
    (subst (λ (z : List (List ℕ)). Distinct z) l_failed (failed_distinct (leader_told t.precision t.name s l) distinct)) in
    -- each told report is an accepted one of the bucket
    let in_l : (r : Report) → Mem r L.0 → Has t.name r l × (batch_start r.time t.precision ≡ s) =
    λ r z.
    let b = told_out t t.name s l (the_tagged r.id (leader_outcome f t r)) (subst (λ v. Mem (the_tagged r.id (leader_outcome f t r)) v) (sym L.1) (each_in (leader_outcome f t) L.0 r z)) in
    let same : b.3 ≡ r = accept_one l t.name b.3 r w.l_legal b.7 (L.2 r z) b.8 in
    (L.2 r z, ap (λ (v : Report). batch_start v.time t.precision) (sym same) ∙ b.9) in
    -- and each accepted report of the bucket is told
    let out_l : (r : Report) → Has t.name r l → batch_start r.time t.precision ≡ s → Mem r L.0 =
    λ r a time.
    let i : Mem r.id (report_ids L.0) = subst (λ z. Mem r.id z) l_ids (told_id t t.name s l r w.l_legal (all r a.0 a.1 time) a time) in
    let q = id_of L.0 r.id i in
    subst (λ z. Mem z L.0) (accept_one l t.name q.0 r w.l_legal (L.2 q.0 q.1) a q.2) q.1 in
    let to_h : Sub L.0 H.0 = λ r z.
    let x = to_helper f fr l h h t t.name s l (the_tagged r.id (leader_outcome f t r)) w e (λ y v. v)
    (subst (λ v. Mem (the_tagged r.id (leader_outcome f t r)) v) (sym L.1) (each_in (leader_outcome f t) L.0 r z)) in
    let same : x.0 ≡ r = accept_one l t.name x.0 r w.l_legal x.1 (L.2 r z) (sym (body_of r.id x.0.id (leader_outcome f t r) (leader_outcome f t x.0) x.2).0) in
    let q = each_out (helper_outcome f t) H.0 (the_tagged x.0.id (helper_outcome f t x.0)) (subst (λ v. Mem (the_tagged x.0.id (helper_outcome f t x.0)) v) H.1 x.3) in
    let same2 : q.0 ≡ x.0 = accept_one l t.name q.0 x.0 w.l_legal (H.2 q.0 q.1) x.1 (sym (body_of x.0.id q.0.id (helper_outcome f t x.0) (helper_outcome f t q.0) q.2).0) in
    subst (λ v. Mem v H.0) (same2 ∙ same) q.1 in
    let to_l : Sub H.0 L.0 = λ r z.
    let x = to_leader_by f fr l h h t t.name s l w w.l_legal (λ y v. v) (λ r a time. all r a.0 a.1 time) (the_tagged r.id (helper_outcome f t r)) e
    (subst (λ v. Mem (the_tagged r.id (helper_outcome f t r)) v) (sym H.1) (each_in (helper_outcome f t) H.0 r z)) in
    let same : x.0 ≡ r = accept_one l t.name x.0 r w.l_legal x.1 (H.2 r z) (sym (body_of r.id x.0.id (helper_outcome f t r) (helper_outcome f t x.0) x.2).0) in
    let q = each_out (leader_outcome f t) L.0 (the_tagged x.0.id (leader_outcome f t x.0)) (subst (λ v. Mem (the_tagged x.0.id (leader_outcome f t x.0)) v) L.1 x.3) in
    let same2 : q.0 ≡ x.0 = accept_one l t.name q.0 x.0 w.l_legal (L.2 q.0 q.1) x.1 (sym (body_of x.0.id q.0.id (leader_outcome f t x.0) (leader_outcome f t q.0) q.2).0) in
    subst (λ v. Mem v L.0) (same2 ∙ same) q.1 in
    let test : (r : Report) → Has t.name r l → batch_start r.time t.precision ≡ s → in_bucket t s r ≡ true =
    λ r a time. and_from (bytes_eq r.name t.name) (nat_eq (batch_start r.time t.precision) s) (bytes_same r.name t.name a.1) (eq-eqb (batch_start r.time t.precision) s time) in
    let tested : (r : Report) → Mem r accepted → in_bucket t s r ≡ true → Has t.name r l × (batch_start r.time t.precision ≡ s) =
    λ r m b.
    let k = and_parts (bytes_eq r.name t.name) (nat_eq (batch_start r.time t.precision) s) b in
    ((acc.stand r m, same_bytes r.name t.name k.0), eqb-true (batch_start r.time t.precision) s k.1) in
    let done_to : Sub (good f t L.0) (finished_in f t s accepted) = λ r z.
    let g = good_out f t L.0 r z in
    let a = in_l r g.0 in
    filter_in (λ r. in_bucket t s r && is_some (seal.content_numbers_of (f t.kind) t r)) accepted r (acc.all r a.0.0)
    (and_from (in_bucket t s r) (is_some (seal.content_numbers_of (f t.kind) t r)) (test r a.0 a.1) (some_ok (f t.kind) (seal.verdict_of (f t.kind) t r) g.1.0 g.1.1 g.1.2)) in
    let done_from : Sub (finished_in f t s accepted) (good f t L.0) = λ r z.
    let g = filter_out (λ r. in_bucket t s r && is_some (seal.content_numbers_of (f t.kind) t r)) accepted r z in
    let k = and_parts (in_bucket t s r) (is_some (seal.content_numbers_of (f t.kind) t r)) g.1 in
    let a = tested r g.0 k.0 in
    good_in f t L.0 r (out_l r a.0 a.1) (ok_some (f t.kind) (seal.verdict_of (f t.kind) t r) k.1) in
    let failed_to : Sub (poor f t L.0) (failed_in f t s accepted) = λ r z.
    let g = poor_out f t L.0 r z in
    let a = in_l r g.0 in
    filter_in (λ r. in_bucket t s r && is_none (seal.content_numbers_of (f t.kind) t r)) accepted r (acc.all r a.0.0)
    (and_from (in_bucket t s r) (is_none (seal.content_numbers_of (f t.kind) t r)) (test r a.0 a.1) (none_bad (f t.kind) (seal.verdict_of (f t.kind) t r) g.1.0 g.1.1)) in
    let failed_from : Sub (failed_in f t s accepted) (poor f t L.0) = λ r z.
    let g = filter_out (λ r. in_bucket t s r && is_none (seal.content_numbers_of (f t.kind) t r)) accepted r z in
    let k = and_parts (in_bucket t s r) (is_none (seal.content_numbers_of (f t.kind) t r)) g.1 in
    let a = tested r g.0 k.0 in
    poor_in f t L.0 r (out_l r a.0 a.1) (bad_none (f t.kind) (seal.verdict_of (f t.kind) t r) k.1) in
    let good_to : Sub (good f t H.0) (good f t L.0) = λ r z. let g = good_out f t H.0 r z in good_in f t L.0 r (to_l r g.0) g.1 in
    let good_from : Sub (good f t L.0) (good f t H.0) = λ r z. let g = good_out f t L.0 r z in good_in f t H.0 r (to_h r g.0) g.1 in
    let done_once : Distinct (finished_in f t s accepted) =
    filter_distinct (λ r. in_bucket t s r && is_some (seal.content_numbers_of (f t.kind) t r)) accepted acc.once in
    let failed_once : Distinct (failed_in f t s accepted) =
    filter_distinct (λ r. in_bucket t s r && is_none (seal.content_numbers_of (f t.kind) t r)) accepted acc.once in
    record {
      count = ap length l_done ∙ ids_length (good f t L.0) ∙ length_same (good f t L.0) (finished_in f t s accepted) good_l done_once done_to done_from;
      rejected = ap length l_failed ∙ ids_length (poor f t L.0) ∙ length_same (poor f t L.0) (failed_in f t s accepted) poor_l failed_once failed_to failed_from;
      leader = ap (λ z. total (f t.kind).space (shares z)) L.1 ∙ ap (total (f t.kind).space) (leader_shares f t L.0)
          ∙ total_same (λ r. (pair_of f t r).leader) (good f t L.0) (finished_in f t s accepted) laws good_l done_once done_to done_from;
      helper = ap (λ z. total (f t.kind).space (shares z)) H.1 ∙ ap (total (f t.kind).space) (helper_shares f t H.0)
          ∙ total_same (λ r. (pair_of f t r).helper) (good f t H.0) (good f t L.0) laws good_h good_l good_to good_from
          ∙ total_same (λ r. (pair_of f t r).helper) (good f t L.0) (finished_in f t s accepted) laws good_l done_once done_to done_from;
    }
