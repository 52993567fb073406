-- What a leader's lane told of a bucket that it closed, and what the helper's lane told of it.
use Rattle.std.proofs.Common.{◌≡◌, ℕ, List, [], ◌∷◌, ◌++◌, length, Bool, true, false, Option, Some, None, refl, ap, sym, ◌∙◌, inl, inr, subst}
use Rattle.std.specs.Prelude.{if◌then◌else◌}
use Rattle.std.specs.Str.{bytes_eq}
use Rattle.vdaf_api.specs.Functions.{Functions}
use Rattle.vdaf_api.specs.Verdict.{Verdict, ok, bad}
use Rattle.vdaf_api.specs.declared.kind.Kind.{Kind}
use Rattle.dap_batch.specs.Checksum.{checksum_of}
use Rattle.dap_batch.specs.Group.{batch_start}
use Rattle.dap_bytes.specs.declared.node.Node.TheVariants.{Leader}
use Rattle.dap_bytes.specs.declared.part.Part.TheVariants.{Lane}
use Rattle.dap_messages.specs.declared.body.Half.{Half}
use Rattle.dap_messages.specs.declared.body.Step.{Step}
use Rattle.dap_messages.specs.declared.code.Code.{Code}
use Rattle.dap_messages.specs.declared.item.Tagged.{Tagged}
use Rattle.dap_messages.specs.declared.job.JobNo.{JobNo}
use Rattle.dap_messages.specs.declared.report.Report.{Report}
use Rattle.dap_messages.specs.Items.{ids_of}
use Rattle.dap_tasks.specs.Task.{PlainTask}
use Rattle.dap_seal.specs.Reports as seal
use Rattle.lane_records.specs.declared.closed.Closed.{Closed}
use Rattle.lane_records.specs.declared.outcome.Outcome.{Outcome}
use Rattle.lane_records.specs.declared.outcome.Outcome.TheVariants.{Finished, Failed}
use Rattle.lane_records.specs.declared.record.Record.{Record}
use Rattle.lane_records.specs.declared.record.Record.TheVariants.{Continue, Finish, Start, Commit}
use Rattle.legal_journals.specs.History.{Mem, first}
use Rattle.legal_journals.specs.Legal.{IsLegal}
use Rattle.lane_records.specs.Records as records
use Rattle.dap_agree.specs.Agree.{Fronts}
use Rattle.legal_journals.specs.Told.{IsTold, name_if, time_if, start_if, half_time, of_bucket, is_name, finished_ids, failed_ids, finish_told, leader_told, of_start, commit_told, helper_told}
use Rattle.dap_agree.specs.Lists.{Distinct, Sub}
use Rattle.dap_messages.specs.Reports.{report_ids, half_of, halves}
use Rattle.legal_journals.specs.JobReports.{each_of, Has}
use Rattle.dap_agree.specs.Verdicts.{item_of, leader_part, helper_part, leader_outcome, helper_outcome}
use Rattle.dap_agree.proofs.Items.{continue_distinct, start_distinct}
use Rattle.dap_agree.proofs.Journals.{LeaderLegal, HelperLegal, older_leader, older_helper, leader_may, helper_may, continue_one, continue_of, accept_one, finish_has, commit_has}
use Rattle.dap_agree.proofs.Lists.{the_tagged, mem_right, mem_cases, has_sub, accepted_at, tags_each, tag_in, tag_of, id_in, id_of, each_in, each_out, first_at, finishes_in, finishes_out, fails_in, fails_out, finished_distinct, failed_distinct}
use Rattle.dap_agree.proofs.Sums.{length_same, checksum_same}
use Rattle.dap_agree.proofs.Told.{finish_only, commit_only, same_bytes, name_if_at, start_if_at, bucket_out, bucket_distinct, is_name_at, told_in, told_out, helper_in, helper_out}
use Rattle.dap_agree.proofs.Two.{Two, CommitKnown, same_task, commit_known, finish_known, CloseKnown}

-- ---- lists without repeats

pub tags_app : {A : Type 0} (xs ys : List (Tagged A)) → ids_of (xs ++ ys) ≡ ids_of xs ++ ids_of ys
tags_app [] ys = refl
tags_app (x ∷ xs) ys = ap (λ z. x.id ∷ z) (tags_app xs ys)

pub distinct_app : {A : Type 0} (xs ys : List A) → Distinct xs → Distinct ys → ((x : A) → Mem x xs → Mem x ys → ⊥) → Distinct (xs ++ ys)
distinct_app [] ys d e n = e
distinct_app (x ∷ xs) ys d e n =
    ((λ p. elim (mem_cases xs ys x p) [ inl q ↦ d.0 q | inr q ↦ n x (inl refl) q ]), distinct_app xs ys d.1 e (λ y p q. n y (inr p) q))

pub distinct_tags_app : {A : Type 0} (xs ys : List (Tagged A)) → Distinct (ids_of xs) → Distinct (ids_of ys) →
    ((x y : Tagged A) → Mem x xs → Mem y ys → x.id ≡ y.id → ⊥) → Distinct (ids_of (xs ++ ys))
distinct_tags_app xs ys d e n =
    subst (λ (l : List (List ℕ)). Distinct l) (sym (tags_app xs ys)) (distinct_app (ids_of xs) (ids_of ys) d e
    (λ id p q. let a = tag_of xs id p in let b = tag_of ys id q in n a.0 b.0 a.1 b.1 (a.2 ∙ sym b.2)))

-- ---- a leader's lane

-- a Finish has the identifiers of its Continue, each once
pub finish_ids : (l : List Record) (n : List ℕ) (j : JobNo) (xs : List (Tagged Step)) (outs : List (Tagged Outcome)) → LeaderLegal l →
    Mem (Finish j outs) l → Mem (Continue n j xs) l → ids_of xs ≡ ids_of outs
finish_ids l n j xs outs h p q =
    let a = finish_has l j outs h p in
    ap (λ (z : List (Tagged Step)). ids_of z) (continue_one l j n a.0 xs a.1 h q a.2).1 ∙ a.3

pub finish_distinct : (l : List Record) (j : JobNo) (outs : List (Tagged Outcome)) → LeaderLegal l → Mem (Finish j outs) l → Distinct (ids_of outs)
finish_distinct l j outs h p =
    let a = finish_has l j outs h p in subst (λ (z : List (List ℕ)). Distinct z) a.3 (continue_distinct l a.0 j a.1 h a.2)

-- what is told by the newest record
abbrev pub HeadFinish : List ℕ → Record → List Record → Tagged Outcome → Type 0
HeadFinish n x k o = (j : JobNo) × (outs : List (Tagged Outcome)) × (xs : List (Tagged Step)) × (x ≡ Finish j outs) × Mem o outs × Mem (Continue n j xs) k

pub head_finish : (t : PlainTask) (n : List ℕ) (s : ℕ) (x : Record) (k : List Record) (o : Tagged Outcome) → Mem o (finish_told t.precision n s k (records.finish_of x)) → HeadFinish n x k o
head_finish t n s x k o p = by_reader (records.finish_of x) refl p
  where
    here : (j : JobNo) (outs : List (Tagged Outcome)) → x ≡ Finish j outs → (b : Bool) → is_name n (first (name_if j) k) ≡ b →
        Mem o (if b then of_bucket t.precision s (λ id. first (time_if n id) k) outs else []) → HeadFinish n x k o
    here j outs w false e q = elim q [ ]
    here j outs w true e q =
        let a = first_at (name_if j) k n (is_name_at n (first (name_if j) k) e) in
        let c = name_if_at j a.0 n a.2 in
        (j, outs, c.0, w, (bucket_out t s (λ id. first (time_if n id) k) outs o q).0, subst (λ z. Mem z k) c.1 a.1)

    by_reader : (y : Option (JobNo × List (Tagged Outcome))) → records.finish_of x ≡ y → Mem o (finish_told t.precision n s k y) → HeadFinish n x k o
    by_reader None r q = elim q [ ]
    by_reader (Some y) r q = here y.0 y.1 (finish_only x y r) (is_name n (first (name_if y.0) k)) refl q

-- no report is told twice
pub told_distinct : (t : PlainTask) (n : List ℕ) (s : ℕ) (k : List Record) → LeaderLegal k → Distinct (ids_of (leader_told t.precision n s k))
told_distinct t n s [] g = tt
told_distinct t n s (x ∷ k) g =
    distinct_tags_app (finish_told t.precision n s k (records.finish_of x)) (leader_told t.precision n s k) (part (records.finish_of x) refl)
    (told_distinct t n s k (older_leader x k g)) apart
  where
    if_part : (outs : List (Tagged Outcome)) (b : Bool) → Distinct (ids_of outs) → Distinct (ids_of (if b then of_bucket t.precision s (λ id. first (time_if n id) k) outs else []))
    if_part outs true d = bucket_distinct t s (λ id. first (time_if n id) k) outs d
    if_part outs false d = tt

    part : (y : Option (JobNo × List (Tagged Outcome))) → records.finish_of x ≡ y → Distinct (ids_of (finish_told t.precision n s k y))
    part None r = tt
    part (Some y) r = if_part y.1 (is_name n (first (name_if y.0) k)) (finish_distinct (x ∷ k) y.0 y.1 g (inl (sym (finish_only x y r))))

    apart : (o p : Tagged Outcome) → Mem o (finish_told t.precision n s k (records.finish_of x)) → Mem p (leader_told t.precision n s k) → o.id ≡ p.id → ⊥
    apart o p q r e =
        let a = head_finish t n s x k o q in
        let ids = finish_ids (x ∷ k) n a.0 a.2 a.1 g (inl (sym a.3)) (inr a.5) in
        let f = told_out t n s k p r in
        let ids' = finish_ids k n f.0 f.2 f.1 (older_leader x k g) f.4 f.6 in
        let in_o : Mem o.id (ids_of a.2) = subst (λ z. Mem o.id z) (sym ids) (tag_in a.1 o a.4) in
        let in_p : Mem o.id (ids_of f.2) = subst (λ z. Mem z (ids_of f.2)) (sym e) (subst (λ z. Mem p.id z) (sym ids') (tag_in f.1 p f.5)) in
        let same : a.0 ≡ f.0 = continue_of k n a.0 f.0 a.2 f.2 o.id (older_leader x k g) a.5 f.6 in_o in_p in
        (leader_may k x (Finish a.0 a.1) g (sym a.3)).2.1 (f.1, subst (λ z. Mem (Finish z f.1) k) (sym same) f.4)

-- ---- a helper's lane that agrees

pub commit_distinct : (l : List Record) (j : JobNo) (outs : List (Tagged Outcome)) → HelperLegal l → Mem (Commit j outs) l → Distinct (ids_of outs)
commit_distinct l j outs h p =
    let a = commit_has l j outs h p in subst (λ (z : List (List ℕ)). Distinct z) a.3 (start_distinct l j a.0 a.1 h a.2)

abbrev pub HeadCommit : List ℕ → Record → List Record → Tagged Outcome → Type 0
HeadCommit n x k o = (j : JobNo) × (outs : List (Tagged Outcome)) × (hs : List (Tagged Half)) × (x ≡ Commit j outs) × Mem o outs × Mem (Start j n hs) k

pub head_commit : (t : PlainTask) (n : List ℕ) (s : ℕ) (x : Record) (k : List Record) (o : Tagged Outcome) → Mem o (commit_told t.precision n s k (records.commit_of x)) → HeadCommit n x k o
head_commit t n s x k o p = by_reader (records.commit_of x) refl p
  where
    there : (j : JobNo) (outs : List (Tagged Outcome)) → x ≡ Commit j outs → (y : List ℕ × List (Tagged Half)) → first (start_if j) k ≡ Some y →
        (b : Bool) → bytes_eq y.0 n ≡ b → Mem o (if b then of_bucket t.precision s (λ id. first (half_time id) y.1) outs else []) → HeadCommit n x k o
    there j outs w y e false f q = elim q [ ]
    there j outs w y e true f q =
        let a = first_at (start_if j) k y e in
        let st : Mem (Start j y.0 y.1) k = subst (λ z. Mem z k) (start_if_at j a.0 y a.2) a.1 in
        (j, outs, y.1, w, (bucket_out t s (λ id. first (half_time id) y.1) outs o q).0, subst (λ z. Mem (Start j z y.1) k) (same_bytes y.0 n f) st)

    here : (j : JobNo) (outs : List (Tagged Outcome)) → x ≡ Commit j outs → (y : Option (List ℕ × List (Tagged Half))) → first (start_if j) k ≡ y →
        Mem o (of_start t.precision n s y outs) → HeadCommit n x k o
    here j outs w None e q = elim q [ ]
    here j outs w (Some y) e q = there j outs w y e (bytes_eq y.0 n) refl q

    by_reader : (y : Option (JobNo × List (Tagged Outcome))) → records.commit_of x ≡ y → Mem o (commit_told t.precision n s k y) → HeadCommit n x k o
    by_reader None r q = elim q [ ]
    by_reader (Some y) r q = here y.0 y.1 (commit_only x y r) (first (start_if y.0) k) refl q

abbrev pub CommitsKnown : (Kind → Functions) → Fronts → List Record → List Record → Type 0
CommitsKnown f fr l k = (j : JobNo) (n : List ℕ) (hs : List (Tagged Half)) (outs : List (Tagged Outcome)) → Mem (Commit j outs) k → Mem (Start j n hs) k → CommitKnown f fr l j n hs outs

-- an identifier of a Commit stands in its Continue
pub committed_id : (f : Kind → Functions) (fr : Fronts) (l : List Record) (j : JobNo) (n : List ℕ) (hs : List (Tagged Half)) (outs : List (Tagged Outcome)) (id : List ℕ)
    (c : CommitKnown f fr l j n hs outs) → Mem id (ids_of outs) → Mem id (ids_of (each_of (item_of f c.0) c.2.0))
committed_id f fr l j n hs outs id c i =
    subst (λ z. Mem id z) (ap (λ (z : List (Tagged Outcome)). ids_of z) c.2.3 ∙ tags_each (helper_outcome f c.0) c.2.0 ∙ sym (tags_each (item_of f c.0) c.2.0)) i

pub helper_distinct_by : (f : Kind → Functions) (fr : Fronts) (l hh : List Record) (t : PlainTask) (n : List ℕ) (s : ℕ) (k : List Record) →
    LeaderLegal l → CommitsKnown f fr l hh → Sub k hh → HelperLegal k → Distinct (ids_of (helper_told t.precision n s k))
helper_distinct_by f fr l hh t n s [] w ck u g = tt
helper_distinct_by f fr l hh t n s (x ∷ k) w ck u g =
    distinct_tags_app (commit_told t.precision n s k (records.commit_of x)) (helper_told t.precision n s k) (part (records.commit_of x) refl)
    (helper_distinct_by f fr l hh t n s k w ck (λ y z. u y (inr z)) (older_helper x k g)) apart
  where
    if_part : (outs : List (Tagged Outcome)) (hs : List (Tagged Half)) (b : Bool) → Distinct (ids_of outs) → Distinct (ids_of (if b then of_bucket t.precision s (λ id. first (half_time id) hs) outs else []))
    if_part outs hs true d = bucket_distinct t s (λ id. first (half_time id) hs) outs d
    if_part outs hs false d = tt

    start_part : (outs : List (Tagged Outcome)) (y : Option (List ℕ × List (Tagged Half))) → Distinct (ids_of outs) → Distinct (ids_of (of_start t.precision n s y outs))
    start_part outs None d = tt
    start_part outs (Some y) d = if_part outs y.1 (bytes_eq y.0 n) d

    part : (y : Option (JobNo × List (Tagged Outcome))) → records.commit_of x ≡ y → Distinct (ids_of (commit_told t.precision n s k y))
    part None r = tt
    part (Some y) r = start_part y.1 (first (start_if y.0) k) (commit_distinct (x ∷ k) y.0 y.1 g (inl (sym (commit_only x y r))))

    apart : (o p : Tagged Outcome) → Mem o (commit_told t.precision n s k (records.commit_of x)) → Mem p (helper_told t.precision n s k) → o.id ≡ p.id → ⊥
    apart o p q r e =
        let a = head_commit t n s x k o q in
        let kx = ck a.0 n a.2 a.1 (u (Commit a.0 a.1) (inl (sym a.3))) (u (Start a.0 n a.2) (inr a.5)) in
        let b = helper_out t n s k p r in
        let ky = ck b.0 n b.2 b.1 (u (Commit b.0 b.1) (inr b.4)) (u (Start b.0 n b.2) (inr b.6)) in
        let in_o = committed_id f fr l a.0 n a.2 a.1 o.id kx (tag_in a.1 o a.4) in
        let in_p = committed_id f fr l b.0 n b.2 b.1 o.id ky (subst (λ z. Mem z (ids_of b.1)) (sym e) (tag_in b.1 p b.5)) in
        let same : a.0 ≡ b.0 = continue_of l n a.0 b.0 (each_of (item_of f kx.0) kx.2.0) (each_of (item_of f ky.0) ky.2.0) o.id w kx.2.2 ky.2.2 in_o in_p in
        (helper_may k x (Commit a.0 a.1) g (sym a.3)).2.1 (b.1, subst (λ z. Mem (Commit z b.1) k) (sym same) b.4)

pub helper_distinct : (f : Kind → Functions) (fr : Fronts) (l h hh : List Record) (t : PlainTask) (n : List ℕ) (s : ℕ) (k : List Record) →
    Two f fr l h hh → Sub k hh → HelperLegal k → Distinct (ids_of (helper_told t.precision n s k))
helper_distinct f fr l h hh t n s k w u g =
    helper_distinct_by f fr l hh t n s k w.l_legal (λ j n' hs outs p q. commit_known f fr l h hh j n' hs outs w p q) u g

-- ---- both

-- what is told at the leader is told at the helper
abbrev pub AtHelper : (Kind → Functions) → PlainTask → List ℕ → List Record → List (Tagged Outcome) → Tagged Outcome → Type 0
AtHelper f t n l told o =
    (r : Report) × Has n r l × (o ≡ the_tagged r.id (leader_outcome f t r)) × Mem (the_tagged r.id (helper_outcome f t r)) told

abbrev pub AtLeader : (Kind → Functions) → PlainTask → List ℕ → List Record → List (Tagged Outcome) → Tagged Outcome → Type 0
AtLeader f t n l told o =
    (r : Report) × Has n r l × (o ≡ the_tagged r.id (helper_outcome f t r)) × Mem (the_tagged r.id (leader_outcome f t r)) told

pub to_helper : (f : Kind → Functions) (fr : Fronts) (l h hh : List Record) (t : PlainTask) (n : List ℕ) (s : ℕ) (old : List Record)
    (o : Tagged Outcome) → Two f fr l h hh → fr.task n ≡ Some t → Sub old l → Mem o (leader_told t.precision n s old) → AtHelper f t n l (helper_told t.precision n s hh) o
to_helper f fr l h hh t n s old o w e u p =
    let a = told_out t n s old o p in
    let fin = finish_known f fr l h hh a.0 n a.2 a.1 w (u (Finish a.0 a.1) a.4) (u (Continue n a.0 a.2) a.6) in
    let tasks : fin.0 ≡ t = same_task fr n fin.0 t fin.1 e in
    let x = each_out (leader_outcome f fin.0) fin.2.0 o (subst (λ z. Mem o z) fin.2.5 a.5) in
    let acc : Has n x.0 l = accepted_at n fin.2.0 l x.0 fin.2.1 x.1 in
    let ids : x.0.id ≡ o.id = sym (ap (λ (z : Tagged Outcome). z.id) x.2) in
    let same : x.0 ≡ a.3 = accept_one l n x.0 a.3 w.l_legal acc (has_sub old l n a.3 u a.7) (ids ∙ sym a.8) in
    let time : batch_start x.0.time t.precision ≡ s = ap (λ (z : Report). batch_start z.time t.precision) same ∙ a.9 in (
      x.0,
      acc,
      x.2 ∙ ap (λ z. the_tagged x.0.id (leader_outcome f z x.0)) tasks,
      helper_in t n s hh a.0 (halves fin.2.0) (each_of (helper_outcome f fin.0) fin.2.0) (the_tagged x.0.id (helper_outcome f t x.0)) (the_tagged x.0.id (half_of x.0)) hh
          w.h_legal w.h_legal (λ y z. z)
          (w.sub (Commit a.0 (each_of (helper_outcome f fin.0) fin.2.0)) fin.2.3) (w.sub (Start a.0 n (halves fin.2.0)) fin.2.4)
          (subst (λ z. Mem (the_tagged x.0.id (helper_outcome f z x.0)) (each_of (helper_outcome f fin.0) fin.2.0)) tasks (each_in (helper_outcome f fin.0) fin.2.0 x.0 x.1))
          (each_in half_of fin.2.0 x.0 x.1) refl time,
    )

-- what is told at the helper is told in a part of the leader's list that has the Finish of each report of the bucket
pub to_leader_by : (f : Kind → Functions) (fr : Fronts) (l h hh : List Record) (t : PlainTask) (n : List ℕ) (s : ℕ) (old : List Record)
    (w : Two f fr l h hh) → LeaderLegal old → Sub old l → ((r : Report) → Has n r l → batch_start r.time t.precision ≡ s → IsTold n r.id old) →
    (o : Tagged Outcome) → fr.task n ≡ Some t → Mem o (helper_told t.precision n s hh) → AtLeader f t n l (leader_told t.precision n s old) o
to_leader_by f fr l h hh t n s old w g u all o e p =
    let a = helper_out t n s hh o p in
    let k = commit_known f fr l h hh a.0 n a.2 a.1 w a.4 a.6 in
    let tasks : k.0 ≡ t = same_task fr n k.0 t k.1 e in
    let x = each_out (helper_outcome f k.0) k.2.0 o (subst (λ z. Mem o z) k.2.3 a.5) in
    let acc : Has n x.0 l = accepted_at n k.2.0 l x.0 k.2.1 x.1 in
    let y = each_out half_of k.2.0 a.3 (subst (λ z. Mem a.3 z) k.2.4 a.7) in
    let acc' : Has n y.0 l = accepted_at n k.2.0 l y.0 k.2.1 y.1 in
    let ids : x.0.id ≡ o.id = sym (ap (λ (z : Tagged Outcome). z.id) x.2) in
    let ids' : a.3.id ≡ y.0.id = ap (λ (z : Tagged Half). z.id) y.2 in
    let same : y.0 ≡ x.0 = accept_one l n y.0 x.0 w.l_legal acc' acc (sym ids' ∙ a.8 ∙ sym ids) in
    let time : batch_start x.0.time t.precision ≡ s =
    ap (λ (z : Report). batch_start z.time t.precision) (sym same) ∙ ap (λ (z : Tagged Half). batch_start z.body.time t.precision) (sym y.2) ∙ a.9 in
    let told = all x.0 acc time in
    let con : Mem (Continue n told.0 told.1) l = u (Continue n told.0 told.1) told.3 in
    let in_x : Mem x.0.id (ids_of (each_of (item_of f k.0) k.2.0)) =
    subst (λ z. Mem x.0.id z) (sym (tags_each (item_of f k.0) k.2.0)) (id_in k.2.0 x.0 x.1) in
    let jobs : a.0 ≡ told.0 = continue_of l n a.0 told.0 (each_of (item_of f k.0) k.2.0) told.1 x.0.id w.l_legal k.2.2 con in_x told.4 in
    let fin = finish_known f fr l h hh told.0 n told.1 told.2 w (u (Finish told.0 told.2) told.5) con in
    let tasks2 : fin.0 ≡ t = same_task fr n fin.0 t fin.1 e in
    let mine : Mem x.0.id (report_ids fin.2.0) =
    subst (λ z. Mem x.0.id z) (ap (λ (z : List (Tagged Step)). ids_of z) fin.2.2 ∙ tags_each (item_of f fin.0) fin.2.0) told.4 in
    let v = id_of fin.2.0 x.0.id mine in
    let reports : v.0 ≡ x.0 = accept_one l n v.0 x.0 w.l_legal (accepted_at n fin.2.0 l v.0 fin.2.1 v.1) acc v.2 in
    let here : Mem x.0 fin.2.0 = subst (λ z. Mem z fin.2.0) reports v.1 in (
      x.0,
      acc,
      x.2 ∙ ap (λ z. the_tagged x.0.id (helper_outcome f z x.0)) tasks,
      told_in t n s l old told.0 told.1 told.2 (the_tagged x.0.id (leader_outcome f t x.0)) x.0
          w.l_legal g u told.5 con
          (subst (λ z. Mem (the_tagged x.0.id (leader_outcome f z x.0)) told.2) tasks2
          (subst (λ z. Mem (the_tagged x.0.id (leader_outcome f fin.0 x.0)) z) (sym fin.2.5) (each_in (leader_outcome f fin.0) fin.2.0 x.0 here)))
          acc refl time,
    )

-- which the part before the Close is
pub to_leader : (f : Kind → Functions) (fr : Fronts) (l h hh : List Record) (t : PlainTask) (n : List ℕ) (s : ℕ) (cl : Closed)
    (w : Two f fr l h hh) (c : CloseKnown f fr l n s cl) (o : Tagged Outcome) → fr.task n ≡ Some t → Mem o (helper_told t.precision n s hh) → AtLeader f t n l (leader_told t.precision n s c.0) o
to_leader f fr l h hh t n s cl w c o e p =
    to_leader_by f fr l h hh t n s c.0 w c.3 c.2
    (λ r acc time. let old : Has n r c.0 = c.4 r t e acc time in
    c.1.3 r old.0 old.1 (ap (λ (z : PlainTask). batch_start r.time z.precision) (same_task fr n c.1.0 t c.1.1 e) ∙ time))
    o e p

-- ---- the same numbers

leader_done : (v : Verdict) (out : List ℕ) → leader_part v ≡ Finished out → (other : List ℕ) × (helper_part v ≡ Finished other)
leader_done (ok a b) out e = (b, refl)
leader_done (bad c) out e = absurd (cc)

helper_done : (v : Verdict) (out : List ℕ) → helper_part v ≡ Finished out → (other : List ℕ) × (leader_part v ≡ Finished other)
helper_done (ok a b) out e = (a, refl)
helper_done (bad c) out e = absurd (cc)

leader_failed : (v : Verdict) (c : Code) → leader_part v ≡ Failed c → helper_part v ≡ Failed c
leader_failed (ok a b) c e = absurd (cc)
leader_failed (bad d) c e = e

helper_failed : (v : Verdict) (c : Code) → helper_part v ≡ Failed c → leader_part v ≡ Failed c
helper_failed (ok a b) c e = absurd (cc)
helper_failed (bad d) c e = e

pub body_of : {A : Type 0} (i j : List ℕ) (x y : A) → the_tagged i x ≡ the_tagged j y → (i ≡ j) × (x ≡ y)
body_of {A} i j x y e = (ap (λ (z : Tagged A). z.id) e, ap (λ (z : Tagged A). z.body) e)

pub put_body : (r : Report) (id : List ℕ) (o p : Outcome) (told : List (Tagged Outcome)) → id ≡ r.id → o ≡ p → Mem (the_tagged r.id o) told → Mem (the_tagged id p) told
put_body r id o p told e b m = subst (λ z. Mem (the_tagged id z) told) b (subst (λ z. Mem (the_tagged z o) told) (sym e) m)

-- the counts and the checksum of both
abbrev pub SameCounts : List (Tagged Outcome) → List (Tagged Outcome) → Type 0
SameCounts xs ys =
    (length (finished_ids xs) ≡ length (finished_ids ys)) × (length (failed_ids xs) ≡ length (failed_ids ys))
    × (checksum_of (finished_ids xs) ≡ checksum_of (finished_ids ys))

pub counts_same : (f : Kind → Functions) (t : PlainTask) (n : List ℕ) (l : List Record) (xs ys : List (Tagged Outcome)) →
    Distinct (ids_of xs) → Distinct (ids_of ys) →
    ((o : Tagged Outcome) → Mem o xs → AtHelper f t n l ys o) → ((o : Tagged Outcome) → Mem o ys → AtLeader f t n l xs o) → SameCounts xs ys
counts_same f t n l xs ys d e to from = (
  length_same (finished_ids xs) (finished_ids ys) (finished_distinct xs d) (finished_distinct ys e) done_to done_from,
  length_same (failed_ids xs) (failed_ids ys) (failed_distinct xs d) (failed_distinct ys e) failed_to failed_from,
  checksum_same (finished_ids xs) (finished_ids ys) (finished_distinct xs d) (finished_distinct ys e) done_to done_from,
)
  where
    done_to : Sub (finished_ids xs) (finished_ids ys)
    done_to id p =
        let a = finishes_out xs id p in
        let b = to (the_tagged id (Finished a.0)) a.1 in
        let c = body_of id b.0.id (Finished a.0) (leader_outcome f t b.0) b.2 in
        let d = leader_done (seal.verdict_of (f t.kind) t b.0) a.0 (sym c.1) in
        finishes_in ys id (d.0, put_body b.0 id (helper_outcome f t b.0) (Finished d.0) ys c.0 d.1 b.3)

    done_from : Sub (finished_ids ys) (finished_ids xs)
    done_from id p =
        let a = finishes_out ys id p in
        let b = from (the_tagged id (Finished a.0)) a.1 in
        let c = body_of id b.0.id (Finished a.0) (helper_outcome f t b.0) b.2 in
        let d = helper_done (seal.verdict_of (f t.kind) t b.0) a.0 (sym c.1) in
        finishes_in xs id (d.0, put_body b.0 id (leader_outcome f t b.0) (Finished d.0) xs c.0 d.1 b.3)

    failed_to : Sub (failed_ids xs) (failed_ids ys)
    failed_to id p =
        let a = fails_out xs id p in
        let b = to (the_tagged id (Failed a.0)) a.1 in
        let c = body_of id b.0.id (Failed a.0) (leader_outcome f t b.0) b.2 in
        fails_in ys id (a.0, put_body b.0 id (helper_outcome f t b.0) (Failed a.0) ys c.0 (leader_failed (seal.verdict_of (f t.kind) t b.0) a.0 (sym c.1)) b.3)

    failed_from : Sub (failed_ids ys) (failed_ids xs)
    failed_from id p =
        let a = fails_out ys id p in
        let b = from (the_tagged id (Failed a.0)) a.1 in
        let c = body_of id b.0.id (Failed a.0) (helper_outcome f t b.0) b.2 in
        fails_in xs id (a.0, put_body b.0 id (leader_outcome f t b.0) (Failed a.0) xs c.0 (helper_failed (seal.verdict_of (f t.kind) t b.0) a.0 (sym c.1)) b.3)

-- ---- nothing is told of a bucket behind its Close

-- an accepted report of the bucket is told before the Close
pub told_before : (f : Kind → Functions) (fr : Fronts) (l : List Record) (n : List ℕ) (s : ℕ) (t : PlainTask) (cl : Closed) (c : CloseKnown f fr l n s cl)
    (r : Report) → LeaderLegal l → fr.task n ≡ Some t → Has n r l → batch_start r.time t.precision ≡ s → Mem r.id (ids_of (leader_told t.precision n s c.0))
told_before f fr l n s t cl c r g e acc b =
    let old : Has n r c.0 = c.4 r t e acc b in
    let tasks : c.1.0 ≡ t = same_task fr n c.1.0 t c.1.1 e in
    let told = c.1.3 r old.0 old.1 (ap (λ (z : PlainTask). batch_start r.time z.precision) tasks ∙ b) in
    let i : Mem r.id (ids_of told.2) = subst (λ z. Mem r.id z) (finish_ids c.0 n told.0 told.1 told.2 c.3 told.5 told.3) told.4 in
    let o = tag_of told.2 r.id i in
    let here : Mem o.0 (leader_told t.precision n s c.0) =
    told_in t n s l c.0 told.0 told.1 told.2 o.0 r g c.3 c.2 told.5 (c.2 (Continue n told.0 told.1) told.3) o.1 acc (sym o.2) b in
    subst (λ z. Mem z (ids_of (leader_told t.precision n s c.0))) o.2 (tag_in (leader_told t.precision n s c.0) o.0 here)

pub app_assoc : {A : Type 0} (a b c : List A) → (a ++ b) ++ c ≡ a ++ (b ++ c)
app_assoc [] b c = refl
app_assoc (x ∷ a) b c = ap (λ z. x ∷ z) (app_assoc a b c)

pub leader_told_app : (t : PlainTask) (n : List ℕ) (s : ℕ) (p l : List Record) → (q : List (Tagged Outcome)) × (leader_told t.precision n s (p ++ l) ≡ q ++ leader_told t.precision n s l)
leader_told_app t n s [] l = ([], refl)
leader_told_app t n s (x ∷ p) l =
    let a = leader_told_app t n s p l in
    let here : List (Tagged Outcome) = finish_told t.precision n s (p ++ l) (records.finish_of x) in
    (here ++ a.0, ap (λ z. here ++ z) a.1 ∙ sym (app_assoc here a.0 (leader_told t.precision n s l)))

pub helper_told_app : (t : PlainTask) (n : List ℕ) (s : ℕ) (p l : List Record) → (q : List (Tagged Outcome)) × (helper_told t.precision n s (p ++ l) ≡ q ++ helper_told t.precision n s l)
helper_told_app t n s [] l = ([], refl)
helper_told_app t n s (x ∷ p) l =
    let a = helper_told_app t n s p l in
    let here : List (Tagged Outcome) = commit_told t.precision n s (p ++ l) (records.commit_of x) in
    (here ++ a.0, ap (λ z. here ++ z) a.1 ∙ sym (app_assoc here a.0 (helper_told t.precision n s l)))

-- where a part has the Finish of each report of the bucket, its numbers are those of the lane
pub no_more_by : (t : PlainTask) (n : List ℕ) (s : ℕ) (p old : List Record) → LeaderLegal (p ++ old) → LeaderLegal old →
    ((r : Report) → Has n r (p ++ old) → batch_start r.time t.precision ≡ s → IsTold n r.id old) → leader_told t.precision n s (p ++ old) ≡ leader_told t.precision n s old
no_more_by t n s p old g go_ all = go (leader_told_app t n s p old).0 (leader_told_app t n s p old).1
  where
    sub : Sub old (p ++ old)
    sub = λ x z. mem_right p old x z

    before : (r : Report) → Has n r (p ++ old) → batch_start r.time t.precision ≡ s → Mem r.id (ids_of (leader_told t.precision n s old))
    before r acc b =
        let told = all r acc b in
        let i : Mem r.id (ids_of told.2) = subst (λ z. Mem r.id z) (finish_ids old n told.0 told.1 told.2 go_ told.5 told.3) told.4 in
        let o = tag_of told.2 r.id i in
        let here : Mem o.0 (leader_told t.precision n s old) =
        told_in t n s (p ++ old) old told.0 told.1 told.2 o.0 r g go_ sub told.5 (sub (Continue n told.0 told.1) told.3) o.1 acc (sym o.2) b in
        subst (λ z. Mem z (ids_of (leader_told t.precision n s old))) o.2 (tag_in (leader_told t.precision n s old) o.0 here)

    go : (q : List (Tagged Outcome)) → leader_told t.precision n s (p ++ old) ≡ q ++ leader_told t.precision n s old → leader_told t.precision n s (p ++ old) ≡ leader_told t.precision n s old
    go [] h = h
    go (o ∷ q) h =
        let a = told_out t n s (p ++ old) o (subst (λ z. Mem o z) (sym h) (inl refl)) in
        let b : Mem a.3.id (ids_of (leader_told t.precision n s old)) = before a.3 a.7 a.9 in
        let once : Distinct (o.id ∷ ids_of (q ++ leader_told t.precision n s old)) = subst (λ z. Distinct (ids_of z)) h (told_distinct t n s (p ++ old) g) in
        absurd (once.0 (subst (λ z. Mem o.id z) (sym (tags_app q (leader_told t.precision n s old)))
        (mem_right (ids_of q) (ids_of (leader_told t.precision n s old)) o.id (subst (λ z. Mem z (ids_of (leader_told t.precision n s old))) a.8 b))))

-- so the numbers before the Close are those of the lane
pub no_more_told : (f : Kind → Functions) (fr : Fronts) (l : List Record) (n : List ℕ) (s : ℕ) (t : PlainTask) (cl : Closed)
    (c : CloseKnown f fr l n s cl) → LeaderLegal l → fr.task n ≡ Some t → leader_told t.precision n s l ≡ leader_told t.precision n s c.0
no_more_told f fr l n s t cl c g e =
    ap (leader_told t.precision n s) c.5.1
    ∙ no_more_by t n s c.5.0 c.0 (g.0, subst (λ z. IsLegal Leader (Lane g.0) z) c.5.1 g.1) c.3
    (λ r acc b. let acc' : Has n r l = subst (λ z. Has n r z) (sym c.5.1) acc in
    let old : Has n r c.0 = c.4 r t e acc' b in
    c.1.3 r old.0 old.1 (ap (λ (z : PlainTask). batch_start r.time z.precision) (same_task fr n c.1.0 t c.1.1 e) ∙ b))
