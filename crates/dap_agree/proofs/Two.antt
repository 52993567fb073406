-- What two journals have in common that are legal and agree. Of the helper's list hh the part h is durable, and what
-- the leader's records rest on stands there.
use Rattle.std.proofs.Common.{◌≡◌, ℕ, List, [], ◌∷◌, ◌++◌, Some, refl, ap, sym, ◌∙◌, inl, inr, subst}
use Rattle.vdaf_api.specs.Functions.{Functions}
use Rattle.vdaf_api.specs.Verdict.{Verdict, ok, bad}
use Rattle.vdaf_api.specs.declared.kind.Kind.{Kind}
use Rattle.dap_batch.specs.Group.{batch_start}
use Rattle.dap_messages.specs.declared.body.Half.{Half}
use Rattle.dap_messages.specs.declared.body.Status.{Status}
use Rattle.dap_messages.specs.declared.body.Status.TheVariants as statuses
use Rattle.dap_messages.specs.declared.body.Step.{Step}
use Rattle.dap_messages.specs.declared.code.Code.{Code}
use Rattle.dap_messages.specs.declared.item.Tagged.{Tagged}
use Rattle.dap_messages.specs.declared.job.JobNo.{JobNo}
use Rattle.dap_messages.specs.declared.report.Report.{Report}
use Rattle.dap_messages.specs.Items.{ids_of}
use Rattle.dap_tasks.specs.Task.{PlainTask}
use Rattle.dap_seal.specs.Reports as seal
use Rattle.lane_records.specs.declared.closed.Closed.{Closed}
use Rattle.lane_records.specs.declared.outcome.Outcome.{Outcome}
use Rattle.lane_records.specs.declared.outcome.Outcome.TheVariants.{Finished, Failed}
use Rattle.lane_records.specs.declared.record.Record.{Record}
use Rattle.lane_records.specs.declared.record.Record.TheVariants.{Accept, Continue, Finish, LeaderClose, Start, Commit}
use Rattle.legal_journals.specs.History.{Mem}
use Rattle.dap_agree.specs.Agree.{Fronts, AcceptFits, LeaderCloseFits, LeaderFits, HelperFits, LeaderAgrees, HelperAgrees}
use Rattle.dap_agree.specs.Lists.{Sub}
use Rattle.dap_messages.specs.Reports.{report_ids, half_of, halves}
use Rattle.legal_journals.specs.JobReports.{each_of, Has, Accepted, status_of, told_statuses}
use Rattle.dap_agree.specs.Verdicts.{item_of, leader_part, helper_part, leader_outcome, helper_outcome, HasShare, HaveShares}
use Rattle.dap_agree.proofs.Journals.{LeaderLegal, HelperLegal, older_leader, continue_one, reports_one, start_one}
use Rattle.dap_agree.proofs.Lists.{the_tagged, tagged, tags_each}

abbrev pub tail_of : {A : Type 0} → List A → List A
tail_of [] = []
tail_of (x ∷ xs) = xs

abbrev pub id_head : List ℕ → List (List ℕ) → List ℕ
id_head d [] = d
id_head d (x ∷ xs) = x

abbrev pub head_of : Status → List (Tagged Status) → Status
head_of d [] = d
head_of d (x ∷ xs) = x.body

pub same_status : (f : Kind → Functions) (t : PlainTask) (r : Report) → status_of (leader_outcome f t r) ≡ status_of (helper_outcome f t r)
same_status f t r = go (seal.verdict_of (f t.kind) t r)
  where
    go : (v : Verdict) → status_of (leader_part v) ≡ status_of (helper_part v)
    go (ok a b) = refl
    go (bad c) = refl

pub same_statuses : (f : Kind → Functions) (t : PlainTask) (rs : List Report) → told_statuses (each_of (helper_outcome f t) rs) ≡ told_statuses (each_of (leader_outcome f t) rs)
same_statuses f t [] = refl
same_statuses f t (r ∷ rs) =
    ap (λ z. the_tagged r.id z ∷ told_statuses (each_of (helper_outcome f t) rs)) (sym (same_status f t r))
    ∙ ap (λ z. the_tagged r.id (status_of (leader_outcome f t r)) ∷ z) (same_statuses f t rs)

-- the leader's outcomes have its shares
pub have_shares : (f : Kind → Functions) (t : PlainTask) (rs : List Report) → HaveShares f t rs (each_of (leader_outcome f t) rs)
have_shares f t [] = tt
have_shares f t (r ∷ rs) = (go (seal.verdict_of (f t.kind) t r) refl, have_shares f t rs)
  where
    go : (v : Verdict) → seal.verdict_of (f t.kind) t r ≡ v → HasShare f t r (leader_part v)
    go (ok a b) e = (b, e)
    go (bad c) e = tt

pub record Two (f : Kind → Functions) (fr : Fronts) (l : List Record) (h hh : List Record) : Type 0 where
  pub l_legal : LeaderLegal l
  pub h_legal : HelperLegal hh
  pub l_fits : LeaderAgrees f fr l h l
  pub h_fits : HelperAgrees f fr l hh
  pub sub : Sub h hh

-- the counterpart of a record that stands in the list
pub leader_fit : (f : Kind → Functions) (fr : Fronts) (l : List Record) (h : List Record) (k : List Record) (x : Record) →
    LeaderAgrees f fr l h k → Mem x k → (old : List Record) × LeaderFits f fr l h x old
leader_fit f fr l h [] x a p = elim p [ ]
leader_fit f fr l h (y ∷ k) x a (inl e) = (k, subst (λ z. LeaderFits f fr l h z k) (sym e) a.0)
leader_fit f fr l h (y ∷ k) x a (inr p) = leader_fit f fr l h k x a.1 p

pub helper_fit : (f : Kind → Functions) (fr : Fronts) (l : List Record) (k : List Record) (x : Record) →
    HelperAgrees f fr l k → Mem x k → (old : List Record) × HelperFits f fr l x old
helper_fit f fr l [] x a p = elim p [ ]
helper_fit f fr l (y ∷ k) x a (inl e) = (k, subst (λ z. HelperFits f fr l z k) (sym e) a.0)
helper_fit f fr l (y ∷ k) x a (inr p) = helper_fit f fr l k x a.1 p

-- the reports of a Commit, where its Start is known
abbrev pub CommitKnown : (Kind → Functions) → Fronts → List Record → JobNo → List ℕ → List (Tagged Half) → List (Tagged Outcome) → Type 0
CommitKnown f fr l j n hs outs =
    (t : PlainTask) × (fr.task n ≡ Some t) × ((rs : List Report) × Accepted n rs l × Mem (Continue n j (each_of (item_of f t) rs)) l
    × (outs ≡ each_of (helper_outcome f t) rs) × (hs ≡ halves rs))

-- the task of a Continue, its reports and its Start
abbrev pub ContinueKnown : (Kind → Functions) → Fronts → List Record → List Record → List ℕ → JobNo → List (Tagged Step) → Type 0
ContinueKnown f fr l h n j items =
    (t : PlainTask) × (fr.task n ≡ Some t) × ((rs : List Report) × Accepted n rs l × Mem (Start j n (halves rs)) h × (items ≡ each_of (item_of f t) rs))

pub same_task : (fr : Fronts) (n : List ℕ) (t t' : PlainTask) → fr.task n ≡ Some t → fr.task n ≡ Some t' → t ≡ t'
same_task fr n t t' p q = cc

pub continue_known : (f : Kind → Functions) (fr : Fronts) (l : List Record) (h hh : List Record) (n : List ℕ) (j : JobNo) (items : List (Tagged Step)) →
    Two f fr l h hh → Mem (Continue n j items) l → ContinueKnown f fr l h n j items
continue_known f fr l h hh n j items w p =
    let a = (leader_fit f fr l h l (Continue n j items) w.l_fits p).1 in
    let hs : List (Tagged Half) = a.2.3.0 in
    let st = (helper_fit f fr l hh (Start j n a.2.3.0) w.h_fits (w.sub (Start j n a.2.3.0) a.2.3.1)).1 in
    let same : st.3.0 ≡ a.2.0 = reports_one l n st.3.0 a.2.0 w.l_legal st.3.1 a.2.1
    (sym (tags_each half_of st.3.0) ∙ ap ids_of (sym st.3.2) ∙ a.2.3.2 ∙ ap ids_of a.2.2 ∙ tags_each (item_of f a.0) a.2.0) in
    (a.0, a.1, (a.2.0, a.2.1, subst (λ z. Mem (Start j n z) h) (st.3.2 ∙ ap halves same) a.2.3.1, a.2.2))

pub commit_known : (f : Kind → Functions) (fr : Fronts) (l : List Record) (h hh : List Record) (j : JobNo) (n : List ℕ) (hs : List (Tagged Half))
    (outs : List (Tagged Outcome)) → Two f fr l h hh → Mem (Commit j outs) hh → Mem (Start j n hs) hh → CommitKnown f fr l j n hs outs
commit_known f fr l h hh j n hs outs w p q =
    let a = (helper_fit f fr l hh (Commit j outs) w.h_fits p).1 in
    let b = continue_known f fr l h hh a.0 j a.3.3.0 w a.3.3.1 in
    let tasks : b.0 ≡ a.1 = same_task fr a.0 b.0 a.1 b.1 a.2 in
    let same : b.2.0 ≡ a.3.0 = reports_one l a.0 b.2.0 a.3.0 w.l_legal b.2.1 a.3.1
    (sym (tags_each (item_of f b.0) b.2.0) ∙ ap ids_of (sym b.2.3) ∙ a.3.3.2 ∙ ap ids_of a.3.2 ∙ tags_each (helper_outcome f a.1) a.3.0) in
    let its : a.3.3.0 ≡ each_of (item_of f a.1) a.3.0 =
    b.2.3 ∙ ap (λ z. each_of (item_of f z) b.2.0) tasks ∙ ap (λ z. each_of (item_of f a.1) z) same in
    let one = start_one hh j a.0 n (halves b.2.0) hs w.h_legal (w.sub (Start j a.0 (halves b.2.0)) b.2.2) q in (
      a.1,
      subst (λ z. fr.task z ≡ Some a.1) one.0 a.2,
      (
        a.3.0,
        subst (λ z. Accepted z a.3.0 l) one.0 a.3.1,
        subst (λ z. Mem (Continue z j (each_of (item_of f a.1) a.3.0)) l) one.0 (subst (λ z. Mem (Continue a.0 j z) l) its a.3.3.1),
        a.3.2,
        sym one.1 ∙ ap halves same,
      ),
    )

pub tags_statuses : (os : List (Tagged Outcome)) → ids_of (told_statuses os) ≡ ids_of os
tags_statuses [] = refl
tags_statuses (o ∷ os) = ap (λ z. o.id ∷ z) (tags_statuses os)

-- the leader's outcomes are known by their kinds and their shares
pub leader_outcomes : (f : Kind → Functions) (t : PlainTask) (rs : List Report) (outs : List (Tagged Outcome)) → ids_of outs ≡ report_ids rs →
    HaveShares f t rs outs → told_statuses (each_of (helper_outcome f t) rs) ≡ told_statuses outs → outs ≡ each_of (leader_outcome f t) rs
leader_outcomes f t [] [] i s e = refl
leader_outcomes f t [] (o ∷ outs) i s e = absurd (cc)
leader_outcomes f t (r ∷ rs) [] i s e = absurd (cc)
leader_outcomes f t (r ∷ rs) (o ∷ outs) i s e =
    let rest : outs ≡ each_of (leader_outcome f t) rs = leader_outcomes f t rs outs (ap tail_of i) s.1 (ap tail_of e) in
    let kind : status_of (helper_outcome f t r) ≡ status_of o.body = ap (head_of (status_of o.body)) e in
    let top : o ≡ the_tagged r.id (leader_outcome f t r) = tagged o r.id (leader_outcome f t r) (ap (id_head []) i) (body o.body s.0 kind) in
    ap (λ z. z ∷ outs) top ∙ ap (λ z. the_tagged r.id (leader_outcome f t r) ∷ z) rest
  where
    failed : (c : Code) (v : Verdict) → status_of (helper_part v) ≡ statuses.Failed c → Failed c ≡ leader_part v
    failed c (ok a b) k = absurd (cc)
    failed c (bad d) k = cc

    body : (x : Outcome) → HasShare f t r x → status_of (helper_outcome f t r) ≡ status_of x → x ≡ leader_outcome f t r
    body (Finished share) d k = ap leader_part (sym d.1)
    body (Failed c) d k = failed c (seal.verdict_of (f t.kind) t r) k

-- the reports of a Finish, where its Continue is known
abbrev pub FinishKnown : (Kind → Functions) → Fronts → List Record → List Record → JobNo → List ℕ → List (Tagged Step) → List (Tagged Outcome) → Type 0
FinishKnown f fr l h j n items outs =
    (t : PlainTask) × (fr.task n ≡ Some t) × ((rs : List Report) × Accepted n rs l × (items ≡ each_of (item_of f t) rs)
    × Mem (Commit j (each_of (helper_outcome f t) rs)) h × Mem (Start j n (halves rs)) h × (outs ≡ each_of (leader_outcome f t) rs))

pub finish_known : (f : Kind → Functions) (fr : Fronts) (l : List Record) (h hh : List Record) (j : JobNo) (n : List ℕ) (items : List (Tagged Step))
    (outs : List (Tagged Outcome)) → Two f fr l h hh → Mem (Finish j outs) l → Mem (Continue n j items) l → FinishKnown f fr l h j n items outs
finish_known f fr l h hh j n items outs w p q =
    let a = (leader_fit f fr l h l (Finish j outs) w.l_fits p).1 in
    let one = continue_one l j a.0 n a.3.4.0 items w.l_legal a.3.4.1 q in
    let b = continue_known f fr l h hh n j items w q in
    let known : fr.task n ≡ Some a.1 = subst (λ z. fr.task z ≡ Some a.1) one.0 a.2 in
    let tasks : b.0 ≡ a.1 = same_task fr n b.0 a.1 b.1 known in
    let c = commit_known f fr l h hh j n (halves b.2.0) a.3.5.0 w (w.sub (Commit j a.3.5.0) a.3.5.1) (w.sub (Start j n (halves b.2.0)) b.2.2) in
    let tasks' : c.0 ≡ a.1 = same_task fr n c.0 a.1 c.1 known in
    let con = continue_one l j n n (each_of (item_of f c.0) c.2.0) items w.l_legal c.2.2 q in
    let acc : Accepted n a.3.0 l = subst (λ z. Accepted z a.3.0 l) one.0 a.3.1 in
    let same : c.2.0 ≡ a.3.0 = reports_one l n c.2.0 a.3.0 w.l_legal c.2.1 acc
    (sym (tags_each (helper_outcome f c.0) c.2.0) ∙ ap ids_of (sym c.2.3) ∙ sym (tags_statuses a.3.5.0) ∙ ap ids_of a.3.5.2 ∙ tags_statuses outs ∙ a.3.2) in
    let told : a.3.5.0 ≡ each_of (helper_outcome f a.1) a.3.0 =
    c.2.3 ∙ ap (λ z. each_of (helper_outcome f z) c.2.0) tasks' ∙ ap (λ z. each_of (helper_outcome f a.1) z) same in
    let its : items ≡ each_of (item_of f a.1) a.3.0 =
    sym con.1 ∙ ap (λ z. each_of (item_of f z) c.2.0) tasks' ∙ ap (λ z. each_of (item_of f a.1) z) same in (
      a.1,
      known,
      (
        a.3.0,
        acc,
        its,
        subst (λ z. Mem (Commit j z) h) told a.3.5.1,
        subst (λ z. Mem (Start j n z) h) (c.2.4 ∙ ap halves same) b.2.2,
        leader_outcomes f a.1 a.3.0 outs a.3.2 a.3.3 (ap told_statuses (sym told) ∙ a.3.5.2),
      ),
    )

-- the part before a Close, to which each Accept of the bucket belongs
abbrev pub CloseKnown : (Kind → Functions) → Fronts → List Record → List ℕ → ℕ → Closed → Type 0
CloseKnown f fr k n s c =
    (old : List Record) × LeaderCloseFits f fr n s c old × Sub old k × LeaderLegal old
    × ((r : Report) (t : PlainTask) → fr.task n ≡ Some t → Has n r k → batch_start r.time t.precision ≡ s → Has n r old)
    × ((p : List Record) × (k ≡ p ++ old))

-- an Accept doesn't stand behind the Close of its bucket
pub accept_late : (fr : Fronts) (k : List Record) (n : List ℕ) (s : ℕ) (c : Closed) (r : Report) (t : PlainTask) → Mem (LeaderClose n s c) k →
    fr.task n ≡ Some t → r.name ≡ n → batch_start r.time t.precision ≡ s → AcceptFits fr r k → ⊥
accept_late fr k n s c r t p e names b fit =
    let same : fit.0 ≡ t = same_task fr n fit.0 t (subst (λ z. fr.task z ≡ Some fit.0) names fit.1) e in
    let start : s ≡ batch_start r.time fit.0.precision = sym b ∙ ap (λ (z : PlainTask). batch_start r.time z.precision) (sym same) in
    fit.2 (c, subst (λ z. Mem (LeaderClose r.name z c) k) start (subst (λ z. Mem (LeaderClose z s c) k) (sym names) p))

pub close_known : (f : Kind → Functions) (fr : Fronts) (l h k : List Record) (n : List ℕ) (s : ℕ) (c : Closed) →
    LeaderAgrees f fr l h k → LeaderLegal k → Mem (LeaderClose n s c) k → CloseKnown f fr k n s c
close_known f fr l h [] n s c a g p = elim p [ ]
close_known f fr l h (x ∷ k) n s c a g (inl e) = (
  k,
  subst (λ z. LeaderFits f fr l h z k) (sym e) a.0,
  (λ y q. inr q),
  older_leader x k g,
  (λ r t p q b. (elim q.0 [ inl d ↦ (let bad : Accept r ≡ LeaderClose n s c = d ∙ sym e in absurd (cc)) | inr z ↦ z ], q.1)),
  (x ∷ [], refl),
)
close_known f fr l h (x ∷ k) n s c a g (inr p) =
    let w = close_known f fr l h k n s c a.1 (older_leader x k g) p in (
      w.0,
      w.1,
      (λ y q. inr (w.2 y q)),
      w.3,
      (λ r t e q b. elim q.0 [
        | inl d ↦ absurd (accept_late fr k n s c r t p e q.1 b (subst (λ z. LeaderFits f fr l h z k) (sym d) a.0))
        | inr z ↦ w.4 r t e (z, q.1) b
      ]),
      (x ∷ w.5.0, ap (λ z. x ∷ z) w.5.1),
    )
