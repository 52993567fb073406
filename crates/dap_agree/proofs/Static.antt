-- Two lanes that keep what is their own agree.
use Rattle.std.proofs.Common.{◌≡◌, ℕ, ◌≤◌, ◌⊎◌, List, [], ◌∷◌, ◌++◌, zero, suc, length, Some, refl, ap, sym, ◌∙◌, arith, inl, inr, subst}
use Rattle.vdaf_api.specs.Functions.{Functions}
use Rattle.vdaf_api.specs.declared.kind.Kind.{Kind}
use Rattle.dap_batch.specs.Group.{batch_start}
use Rattle.dap_bytes.specs.declared.node.Node.TheVariants.{Helper}
use Rattle.dap_bytes.specs.declared.part.Part.TheVariants.{Lane}
use Rattle.dap_messages.specs.declared.body.Half.{Half}
use Rattle.dap_messages.specs.declared.body.Step.{Step}
use Rattle.dap_messages.specs.declared.item.Tagged.{Tagged}
use Rattle.dap_messages.specs.declared.job.JobNo.{JobNo}
use Rattle.dap_messages.specs.declared.message.Message.{Message}
use Rattle.dap_messages.specs.declared.message.Message.TheVariants.{InitReq, InitResp, ContReq, ContResp}
use Rattle.dap_messages.specs.declared.report.Report.{Report}
use Rattle.dap_messages.specs.Items.{ids_of}
use Rattle.dap_tasks.specs.Task.{PlainTask}
use Rattle.lane_records.specs.declared.closed.Closed.{Closed}
use Rattle.lane_records.specs.declared.outcome.Outcome.{Outcome}
use Rattle.lane_records.specs.declared.outcome.Outcome.TheVariants.{Finished}
use Rattle.lane_records.specs.declared.record.Record.{Record}
use Rattle.lane_records.specs.declared.record.Record.TheVariants.{LeaderOpen, Accept, Continue, Finish, LeaderClose, Start, Commit, HelperClose}
use Rattle.legal_journals.specs.History.{Mem, opens}
use Rattle.legal_journals.specs.Legal.{IsLegal}
use Rattle.legal_journals.specs.LegalLanes.{WasFinished, IsHelperClosed}
use Rattle.legal_journals.proofs.Grown.{older_legal}
use Rattle.dap_agree.specs.Agree.{Fronts, LeaderFits, StartFits, CommitFits, HelperFits, LeaderAgrees, HelperAgrees, LanesFit}
use Rattle.dap_agree.specs.Lists.{Distinct, Sub}
use Rattle.legal_journals.specs.JobReports.{each_of, Has, Accepted, told_statuses, steps_of, items_from, outs_by, AreTested}
use Rattle.dap_messages.specs.Reports.{half_of, halves}
use Rattle.dap_agree.specs.Verdicts.{item_of, leader_outcome, helper_outcome, HaveShares}
use Rattle.legal_journals.specs.Rests.{StartRests, ContinueRests, CommitRests}
use Rattle.dap_seal.specs.Steps.{prep_by, item_by, share_by, outcome_by}
use Rattle.lane_records.specs.declared.format.Format.{Format}
use Rattle.dap_agree.specs.Static.{LeaderRests, HelperRests, AllLeaderRest, AllHelperRest, LeaderCloses, LeaderClosesFit, HelperCloses, HelperClosesFit, LanesKeep}
use Rattle.legal_journals.specs.Told.{finished_ids, failed_ids, leader_told, helper_told, numbers_of}
use Rattle.dap_agree.proofs.Closed.{CommitsKnown, committed_id, helper_distinct_by, told_before, told_distinct}
use Rattle.dap_agree.proofs.Grows.{same_fronts, opens_app, leader_grows, helper_grows}
use Rattle.dap_agree.proofs.Journals.{LeaderLegal, HelperLegal, older_leader, older_helper, leader_may, helper_may, continue_one, continue_of, reports_one, start_one}
use Rattle.dap_agree.proofs.Lists.{the_tagged, mem_right, accepted_mono, accepted_at, tags_each, tag_in, tag_of, id_in, each_out}
use Rattle.dap_agree.proofs.Numbers.{told_length}
use Rattle.dap_agree.proofs.Shown.{helper_close_known}
use Rattle.dap_agree.proofs.Steps.{items_are, outs_are, tested_are}
use Rattle.dap_agree.proofs.Sums.{without, length_fold}
use Rattle.dap_agree.proofs.Told.{helper_out}
use Rattle.dap_agree.proofs.Two.{same_statuses, have_shares, leader_fit, helper_fit, ContinueKnown, same_task, CloseKnown, accept_late}

-- ---- lists

pub tags_length : {A : Type 0} (xs : List (Tagged A)) → length (ids_of xs) ≡ length xs
tags_length [] = refl
tags_length (x ∷ xs) = ap suc (tags_length xs)

-- a list without repeats that is as long as a part of it without repeats has no more members
pub pigeons : {A : Type 0} (xs ys : List A) → Distinct xs → Distinct ys → Sub xs ys → length xs ≡ length ys → Sub ys xs
pigeons [] [] d e s l y p = p
pigeons [] (z ∷ ys) d e s l y p = let l' : zero ≡ suc (length ys) = l in absurd (omega arith)
pigeons {A} (x ∷ xs) ys d e s l y p =
    let w = without (record { add = λ (z : A) (n : ℕ). suc n; swap = λ a b c. refl }) 0 x ys e (s x (inl refl)) in
    let a : length ys ≡ suc (length w.0) = length_fold ys ∙ w.1 ∙ ap suc (sym (length_fold w.0)) in
    let l' : suc (length xs) ≡ length ys = l in
    let b : length xs ≡ length w.0 = omega arith in
    let to : Sub xs w.0 = λ z q. elim (w.4 z (s z (inr q))) [ inl c ↦ absurd (d.0 (subst (λ v. Mem v xs) c q)) | inr c ↦ c ] in
    elim (w.4 y p) [ inl c ↦ inl c | inr c ↦ inr (pigeons xs w.0 d.1 w.2 to b y c) ]

-- ---- what was added

-- a Start is from the opening, or its InitReq was handed on
pub start_rest : (f : Kind → Functions) (fr : Fronts) (requests : List Message) (a base : List Record) (j : JobNo) (n : List ℕ) (hs : List (Tagged Half)) →
    AllHelperRest f fr requests a base → Mem (Start j n hs) (a ++ base) → Mem (Start j n hs) base ⊎ StartRests fr.task (λ m. Mem m requests) j n hs
start_rest f fr requests [] base j n hs r p = inl p
start_rest f fr requests (x ∷ a) base j n hs r (inl e) = inr (subst (λ z. HelperRests f fr requests z (a ++ base)) (sym e) r.0)
start_rest f fr requests (x ∷ a) base j n hs r (inr p) = start_rest f fr requests a base j n hs r.1 p

-- a Continue is from the opening, or rests on an InitResp and is of a later incarnation
abbrev pub LaterContinue : (Kind → Functions) → Fronts → List Message → List Record → List Record → List ℕ → JobNo → List (Tagged Step) → Type 0
LaterContinue f fr replies l base n j xs = (old : List Record) × ContinueRests (item_by f) fr.task (λ m. Mem m replies) n j xs old × Sub old l × (opens base ≤ j.incarnation)

pub continue_rest : (f : Kind → Functions) (fr : Fronts) (replies : List Message) (a base : List Record) (n : List ℕ) (j : JobNo) (xs : List (Tagged Step)) →
    LeaderLegal (a ++ base) → AllLeaderRest f fr replies a base → Mem (Continue n j xs) (a ++ base) →
    Mem (Continue n j xs) base ⊎ LaterContinue f fr replies (a ++ base) base n j xs
continue_rest f fr replies [] base n j xs g r p = inl p
continue_rest f fr replies (x ∷ a) base n j xs g r (inl e) =
    let inc : j.incarnation ≡ opens (a ++ base) = (leader_may (a ++ base) x (Continue n j xs) g e).2.1 in
    let more : opens base ≤ opens (a ++ base) = opens_app a base in
    inr (a ++ base, subst (λ z. LeaderRests f fr replies z (a ++ base)) (sym e) r.0, (λ y q. inr q), omega arith)
continue_rest f fr replies (x ∷ a) base n j xs g r (inr p) =
    elim (continue_rest f fr replies a base n j xs (older_leader x (a ++ base) g) r.1 p) [ inl q ↦ inl (q) | inr q ↦ inr (q.0, q.1, (λ y z. inr (q.2 y z)), q.3) ]

abbrev pub ContinuesKnown : (Kind → Functions) → Fronts → List Record → List Record → Type 0
ContinuesKnown f fr l h = (n : List ℕ) (j : JobNo) (xs : List (Tagged Step)) → Mem (Continue n j xs) l → ContinueKnown f fr l h n j xs

-- each Commit of a part of the helper's list that agrees has its reports
pub commits_known : (f : Kind → Functions) (fr : Fronts) (l h k : List Record) → ContinuesKnown f fr l h → LeaderLegal l → HelperLegal h →
    Sub k h → HelperAgrees f fr l k → CommitsKnown f fr l k
commits_known f fr l h k known g gh u fits j n hs outs p q =
    let a = (helper_fit f fr l k (Commit j outs) fits p).1 in
    let b = known a.0 j a.3.3.0 a.3.3.1 in
    let tasks : b.0 ≡ a.1 = same_task fr a.0 b.0 a.1 b.1 a.2 in
    let same : b.2.0 ≡ a.3.0 = reports_one l a.0 b.2.0 a.3.0 g b.2.1 a.3.1
    (sym (tags_each (item_of f b.0) b.2.0) ∙ ap (λ (z : List (Tagged Step)). ids_of z) (sym b.2.3) ∙ a.3.3.2
    ∙ ap (λ (z : List (Tagged Outcome)). ids_of z) a.3.2 ∙ tags_each (helper_outcome f a.1) a.3.0) in
    let its : a.3.3.0 ≡ each_of (item_of f a.1) a.3.0 =
    b.2.3 ∙ ap (λ z. each_of (item_of f z) b.2.0) tasks ∙ ap (λ z. each_of (item_of f a.1) z) same in
    let one = start_one h j a.0 n (halves b.2.0) hs gh b.2.2 (u (Start j n hs) q) in (
      a.1,
      subst (λ z. fr.task z ≡ Some a.1) one.0 a.2,
      (
        a.3.0,
        subst (λ z. Accepted z a.3.0 l) one.0 a.3.1,
        subst (λ z. Mem (Continue z j (each_of (item_of f a.1) a.3.0)) l) one.0 (subst (λ z. Mem (Continue a.0 j z) l) its a.3.3.1),
        a.3.2,
        sym one.1 ∙ ap halves same,
      ),
    )

-- the part before a Close, by the counterparts of Accepts and Closes alone
pub close_part : (f : Kind → Functions) (fr : Fronts) (k : List Record) (n : List ℕ) (s : ℕ) (c : Closed) →
    LeaderClosesFit f fr k → LeaderLegal k → Mem (LeaderClose n s c) k → CloseKnown f fr k n s c
close_part f fr [] n s c a g p = elim p [ ]
close_part f fr (x ∷ k) n s c a g (inl e) = (
  k,
  subst (λ z. LeaderCloses f fr z k) (sym e) a.0,
  (λ y q. inr q),
  older_leader x k g,
  (λ r t p q b. (elim q.0 [ inl d ↦ (let bad : Accept r ≡ LeaderClose n s c = d ∙ sym e in absurd (cc)) | inr z ↦ z ], q.1)),
  (x ∷ [], refl),
)
close_part f fr (x ∷ k) n s c a g (inr p) =
    let w = close_part f fr k n s c a.1 (older_leader x k g) p in (
      w.0,
      w.1,
      (λ y q. inr (w.2 y q)),
      w.3,
      (λ r t e q b. elim q.0 [
        | inl d ↦ absurd (accept_late fr k n s c r t p e q.1 b (subst (λ z. LeaderCloses f fr z k) (sym d) a.0))
        | inr z ↦ w.4 r t e (z, q.1) b
      ]),
      (x ∷ w.5.0, ap (λ z. x ∷ z) w.5.1),
    )

-- a bucket that the helper closed has a Commit for each accepted report, since both Closes count the same
pub committed_before : (f : Kind → Functions) (fr : Fronts) (l k : List Record) (n : List ℕ) (s : ℕ) (t : PlainTask) (c : Closed) (r : Report) →
    LeaderClosesFit f fr l → LeaderLegal l → HelperLegal k → CommitsKnown f fr l k → HelperAgrees f fr l k → fr.task n ≡ Some t →
    Mem (HelperClose n s c) k → Has n r l → batch_start r.time t.precision ≡ s →
    (j : JobNo) × (hs : List (Tagged Half)) × (outs : List (Tagged Outcome)) × Mem (Commit j outs) k × Mem (Start j n hs) k × Mem r.id (ids_of outs)
committed_before f fr l k n s t c r closes g gk ck fits e p acc b =
    let a = helper_close_known f fr l k n s c fits p in
    let part : Sub a.0 k = λ x q. subst (λ z. Mem x z) (sym a.2.1) (mem_right a.2.0 a.0 x q) in
    let legal : HelperLegal a.0 = (gk.0, older_legal Helper (Lane gk.0) a.2.0 a.0 (subst (λ z. IsLegal Helper (Lane gk.0) z) a.2.1 gk.1)) in
    let tasks : a.1.0 ≡ t = same_task fr n a.1.0 t a.1.1 e in
    let d = close_part f fr l n s a.1.2.0 closes g a.1.2.1 in
    let tasks' : d.1.0 ≡ t = same_task fr n d.1.0 t d.1.1 e in
    let theirs : c ≡ numbers_of (f t.kind).space (helper_told t.precision n s a.0) = a.1.3 ∙ ap (λ (z : PlainTask). numbers_of (f z.kind).space (helper_told z.precision n s a.0)) tasks in
    let mine : a.1.2.0 ≡ numbers_of (f t.kind).space (leader_told t.precision n s d.0) = d.1.4 ∙ ap (λ (z : PlainTask). numbers_of (f z.kind).space (leader_told z.precision n s d.0)) tasks' in
    let done : length (finished_ids (helper_told t.precision n s a.0)) ≡ length (finished_ids (leader_told t.precision n s d.0)) =
    ap (λ (z : Closed). z.count) (sym theirs) ∙ sym a.1.2.2 ∙ ap (λ (z : Closed). z.count) mine in
    let failed : length (failed_ids (helper_told t.precision n s a.0)) ≡ length (failed_ids (leader_told t.precision n s d.0)) =
    ap (λ (z : Closed). z.rejected) (sym theirs) ∙ sym a.1.2.3 ∙ ap (λ (z : Closed). z.rejected) mine in
    let hl = told_length (helper_told t.precision n s a.0) in
    let ll = told_length (leader_told t.precision n s d.0) in
    let both : length (helper_told t.precision n s a.0) ≡ length (leader_told t.precision n s d.0) = omega arith in
    let long : length (ids_of (helper_told t.precision n s a.0)) ≡ length (ids_of (leader_told t.precision n s d.0)) =
    tags_length (helper_told t.precision n s a.0) ∙ both ∙ sym (tags_length (leader_told t.precision n s d.0)) in
    let inside : Sub (ids_of (helper_told t.precision n s a.0)) (ids_of (leader_told t.precision n s d.0)) =
    λ id q.
    let o = tag_of (helper_told t.precision n s a.0) id q in
    let v = helper_out t n s a.0 o.0 o.1 in
    let k' = ck v.0 n v.2 v.1 (part (Commit v.0 v.1) v.4) (part (Start v.0 n v.2) v.6) in
    let y = each_out half_of k'.2.0 v.3 (subst (λ z. Mem v.3 z) k'.2.4 v.7) in
    let acc' : Has n y.0 l = accepted_at n k'.2.0 l y.0 k'.2.1 y.1 in
    let time : batch_start y.0.time t.precision ≡ s = ap (λ (z : Tagged Half). batch_start z.body.time t.precision) (sym y.2) ∙ v.9 in
    let ids : y.0.id ≡ id = sym (ap (λ (z : Tagged Half). z.id) y.2) ∙ v.8 ∙ o.2 in
    subst (λ z. Mem z (ids_of (leader_told t.precision n s d.0))) ids (told_before f fr l n s t a.1.2.0 d y.0 g e acc' time) in
    let outside : Mem r.id (ids_of (helper_told t.precision n s a.0)) =
    pigeons (ids_of (helper_told t.precision n s a.0)) (ids_of (leader_told t.precision n s d.0))
    (helper_distinct_by f fr l k t n s a.0 g ck part legal)
    (told_distinct t n s d.0 d.3) inside long r.id (told_before f fr l n s t a.1.2.0 d r g e acc b) in
    let o = tag_of (helper_told t.precision n s a.0) r.id outside in
    let v = helper_out t n s a.0 o.0 o.1 in
    (v.0, v.2, v.1, part (Commit v.0 v.1) v.4, part (Start v.0 n v.2) v.6, subst (λ z. Mem z (ids_of v.1)) o.2 (tag_in v.1 o.0 v.5))

-- each Commit that was added has its counterpart
pub commit_fits : (f : Kind → Functions) (fr : Fronts) (l h k : List Record) (requests : List Message) (j : JobNo) (outs : List (Tagged Outcome)) →
    ContinuesKnown f fr l h → LeaderLegal l → HelperLegal h → Sub (Commit j outs ∷ k) h → HelperLegal (Commit j outs ∷ k) →
    LeaderClosesFit f fr l → HelperAgrees f fr l k →
    ((j : JobNo) (xs : List (Tagged Step)) → Mem (ContReq j xs) requests → (n : List ℕ) × Mem (Continue n j xs) l) →
    CommitRests (outcome_by f) (λ (t : PlainTask). t.precision) fr.task (λ m. Mem m requests) j outs k → CommitFits f fr l j outs
commit_fits f fr l h k requests j outs known g gh u gk closes fits conts rests =
    let req = conts j rests.3.1 rests.3.3 in
    let c = known req.0 j rests.3.1 req.1 in
    let one = start_one h j req.0 rests.0 (halves c.2.0) rests.3.0 gh c.2.2 (u (Start j rests.0 rests.3.0) (inr rests.3.2)) in
    let tasks : c.0 ≡ rests.1 = same_task fr rests.0 c.0 rests.1 (subst (λ z. fr.task z ≡ Some c.0) one.0 c.1) rests.2 in
    let its : rests.3.1 ≡ each_of (item_of f rests.1) c.2.0 = c.2.3 ∙ ap (λ z. each_of (item_of f z) c.2.0) tasks in
    let acc : Accepted rests.0 c.2.0 l = subst (λ z. Accepted z c.2.0 l) one.0 c.2.1 in
    let con : Mem (Continue rests.0 j rests.3.1) l = subst (λ z. Mem (Continue z j rests.3.1) l) one.0 req.1 in
    let outcomes : AreTested (outcome_by f rests.1 rests.0) rests.1.precision rests.0 (halves c.2.0) (each_of (item_of f rests.1) c.2.0) k outs =
    subst (λ z. AreTested (outcome_by f rests.1 rests.0) rests.1.precision rests.0 (halves c.2.0) z k outs) its
    (subst (λ z. AreTested (outcome_by f rests.1 rests.0) rests.1.precision rests.0 z rests.3.1 k outs) (sym one.1) rests.3.5) in
    let same : outs ≡ each_of (helper_outcome f rests.1) c.2.0 =
    tested_are f rests.1 rests.0 c.2.0 l k outs acc (λ r p. never c.2.0 acc (subst (λ z. Mem (Continue rests.0 j z) l) its con) r p) outcomes in (
      rests.0,
      rests.1,
      rests.2,
      (
        c.2.0,
        acc,
        same,
        (
          rests.3.1,
          con,
          ap (λ (z : List (Tagged Step)). ids_of z) its ∙ tags_each (item_of f rests.1) c.2.0
              ∙ sym (ap (λ (z : List (Tagged Outcome)). ids_of z) same ∙ tags_each (helper_outcome f rests.1) c.2.0),
        ),
      ),
    )
  where
    ck : CommitsKnown f fr l k
    ck = commits_known f fr l h k known g gh (λ x p. u x (inr p)) fits

    other : (rs : List Report) (t : PlainTask) (r : Report) → Mem (Continue rests.0 j (each_of (item_of f t) rs)) l → Mem r rs →
        (j' : JobNo) (hs : List (Tagged Half)) (outs' : List (Tagged Outcome)) → Mem (Commit j' outs') k → Mem (Start j' rests.0 hs) k → Mem r.id (ids_of outs') → ⊥
    other rs t r con p j' hs outs' q st i =
        let b = ck j' rests.0 hs outs' q st in
        let i' = committed_id f fr l j' rests.0 hs outs' r.id b i in
        let mine : Mem r.id (ids_of (each_of (item_of f t) rs)) = subst (λ z. Mem r.id z) (sym (tags_each (item_of f t) rs)) (id_in rs r p) in
        let same : j ≡ j' = continue_of l rests.0 j j' (each_of (item_of f t) rs) (each_of (item_of f b.0) b.2.0) r.id g con b.2.2 mine i' in
        (helper_may k (Commit j outs) (Commit j outs) gk refl).2.1 (outs', subst (λ z. Mem (Commit z outs') k) (sym same) q)

    never : (rs : List Report) → Accepted rests.0 rs l → Mem (Continue rests.0 j (each_of (item_of f rests.1) rs)) l →
        (r : Report) → Mem r rs → ¬ (WasFinished rests.0 r.id k) × ¬ (IsHelperClosed rests.0 (batch_start r.time rests.1.precision) k)
    never rs acc con r p = (
      (λ was. other rs rests.1 r con p was.0 was.1 was.2 was.4 was.3 (tag_in was.2 (the_tagged r.id (Finished was.5.0)) was.5.1)),
      (λ c. let b = committed_before f fr l k rests.0 (batch_start r.time rests.1.precision) rests.1 c.0 r closes g (older_helper (Commit j outs) k gk) ck fits rests.2 c.1
          (accepted_at rests.0 rs l r acc p) refl in
          other rs rests.1 r con p b.0 b.1 b.2 b.3 b.4 b.5),
    )

-- ---- all of it

module _ (f : Kind → Functions) (fr : Fronts) (lane : ℕ) (format : Format) (lanes own : ℕ) (la lo ha ho : List Record) (requests replies : List Message)
    (w : LanesKeep f fr lane format lanes own la lo ha ho requests replies) where
  -- the whole lists
  abbrev l : List Record
  l = la ++ LeaderOpen format lanes own ∷ lo

  l_legal : LeaderLegal (la ++ LeaderOpen format lanes own ∷ lo)
  l_legal = (lane, w.l_legal)

  h_legal : HelperLegal (ha ++ ho)
  h_legal = (lane, w.h_legal)

  opening : Sub lo (la ++ LeaderOpen format lanes own ∷ lo)
  opening x z = mem_right la (LeaderOpen format lanes own ∷ lo) x (inr z)

  starts_fit : (j : JobNo) (n : List ℕ) (hs : List (Tagged Half)) → Mem (Start j n hs) (ha ++ ho) → StartFits fr (la ++ LeaderOpen format lanes own ∷ lo) j n hs
  starts_fit j n hs p =
      elim (start_rest f fr requests ha ho j n hs w.h_rests p) [
        | inl q ↦ (let a = (helper_fit f fr lo ho (Start j n hs) w.opened.1 q).1 in
            let g : opens (LeaderOpen format lanes own ∷ lo) ≤ opens (la ++ LeaderOpen format lanes own ∷ lo) = opens_app la (LeaderOpen format lanes own ∷ lo) in
            let b : j.incarnation ≤ opens lo = a.1 in
            (a.0, omega arith, a.2, (a.3.0, accepted_mono n a.3.0 lo (la ++ LeaderOpen format lanes own ∷ lo) opening a.3.1, a.3.2)))
        | inr q ↦ (let a = (w.l_sent (InitReq j n hs) q.1).0 in (a.0, a.1, q.0, a.2))
      ]

  -- each Continue has its Start and its items
  continues_known : ContinuesKnown f fr (la ++ LeaderOpen format lanes own ∷ lo) (ha ++ ho)
  continues_known n j xs p =
      elim (continue_rest f fr replies la (LeaderOpen format lanes own ∷ lo) n j xs l_legal w.l_rests p) [ inl q ↦ old q | inr q ↦ new q ]
    where
      old : Mem (Continue n j xs) (LeaderOpen format lanes own ∷ lo) → ContinueKnown f fr (la ++ LeaderOpen format lanes own ∷ lo) (ha ++ ho) n j xs
      old (inl e) = absurd (cc)
      old (inr q) =
          let a = (leader_fit f fr lo ho lo (Continue n j xs) w.opened.0 q).1 in
          let st : Mem (Start j n a.2.3.0) (ha ++ ho) = mem_right ha ho (Start j n a.2.3.0) a.2.3.1 in
          let b = starts_fit j n a.2.3.0 st in
          let acc : Accepted n a.2.0 (la ++ LeaderOpen format lanes own ∷ lo) = accepted_mono n a.2.0 lo (la ++ LeaderOpen format lanes own ∷ lo) opening a.2.1 in
          let same : b.3.0 ≡ a.2.0 = reports_one (la ++ LeaderOpen format lanes own ∷ lo) n b.3.0 a.2.0 l_legal b.3.1 acc
          (sym (tags_each half_of b.3.0) ∙ ap (λ (z : List (Tagged Half)). ids_of z) (sym b.3.2) ∙ a.2.3.2
          ∙ ap (λ (z : List (Tagged Step)). ids_of z) a.2.2 ∙ tags_each (item_of f a.0) a.2.0) in
          (a.0, a.1, (a.2.0, acc, subst (λ z. Mem (Start j n z) (ha ++ ho)) (b.3.2 ∙ ap halves same) st, a.2.2))

      new : LaterContinue f fr replies (la ++ LeaderOpen format lanes own ∷ lo) (LeaderOpen format lanes own ∷ lo) n j xs → ContinueKnown f fr (la ++ LeaderOpen format lanes own ∷ lo) (ha ++ ho) n j xs
      new q =
          let a = q.1 in
          let rep = w.h_sent (InitResp j a.2.1) a.2.4 in
          let later : suc (opens lo) ≤ j.incarnation = q.3 in
          let req : Mem (InitReq j rep.0 rep.3.0) requests =
          elim (start_rest f fr requests ha ho j rep.0 rep.3.0 w.h_rests rep.3.1) [
            | inl z ↦ (let b = (helper_fit f fr lo ho (Start j rep.0 rep.3.0) w.opened.1 z).1 in let c : j.incarnation ≤ opens lo = b.1 in absurd (omega arith))
            | inr z ↦ z.1
          ] in
          let of = (w.l_sent (InitReq j rep.0 rep.3.0) req).1 n xs p in
          let b = (w.l_sent (InitReq j rep.0 rep.3.0) req).0 in
          let acc : Accepted n a.2.0 (la ++ LeaderOpen format lanes own ∷ lo) = accepted_mono n a.2.0 q.0 (la ++ LeaderOpen format lanes own ∷ lo) q.2 a.2.2 in
          let acc' : Accepted n b.2.0 (la ++ LeaderOpen format lanes own ∷ lo) = subst (λ z. Accepted z b.2.0 (la ++ LeaderOpen format lanes own ∷ lo)) of.0 b.2.1 in
          let same : b.2.0 ≡ a.2.0 = reports_one (la ++ LeaderOpen format lanes own ∷ lo) n b.2.0 a.2.0 l_legal acc' acc
          (sym (tags_each half_of b.2.0) ∙ ap (λ (z : List (Tagged Half)). ids_of z) (sym b.2.2) ∙ of.1 ∙ sym a.2.3) in
          let halve : rep.3.0 ≡ halves a.2.0 = b.2.2 ∙ ap halves same in
          let tasks : rep.1 ≡ a.0 = same_task fr n rep.1 a.0 (subst (λ z. fr.task z ≡ Some rep.1) of.0 rep.2) a.1 in
          let st : Mem (Start j n (halves a.2.0)) (ha ++ ho) =
          subst (λ z. Mem (Start j z (halves a.2.0)) (ha ++ ho)) of.0 (subst (λ z. Mem (Start j rep.0 z) (ha ++ ho)) halve rep.3.1) in
          let told : a.2.1 ≡ steps_of (prep_by f a.0 n) (halves a.2.0) =
          rep.3.2 ∙ ap (λ z. steps_of (prep_by f z rep.0) rep.3.0) tasks ∙ ap (λ z. steps_of (prep_by f a.0 z) rep.3.0) of.0 ∙ ap (steps_of (prep_by f a.0 n)) halve in
          (a.0, a.1, (a.2.0, acc, st, a.2.5 ∙ ap (items_from (item_by f a.0) a.2.0) told ∙ items_are f a.0 n a.2.0 (la ++ LeaderOpen format lanes own ∷ lo) acc))

  helper_all : (a : List Record) → Sub (a ++ ho) (ha ++ ho) → HelperLegal (a ++ ho) → AllHelperRest f fr requests a ho →
      HelperClosesFit f fr (la ++ LeaderOpen format lanes own ∷ lo) (a ++ ho) → HelperAgrees f fr (la ++ LeaderOpen format lanes own ∷ lo) (a ++ ho)
  helper_all [] u g r c =
      let more : opens (LeaderOpen format lanes own ∷ lo) ≤ opens (la ++ LeaderOpen format lanes own ∷ lo) = opens_app la (LeaderOpen format lanes own ∷ lo) in
      helper_grows f fr fr lo (la ++ LeaderOpen format lanes own ∷ lo) ho (same_fronts fr) opening (omega arith) w.opened.1
  helper_all (x ∷ a) u g r c =
      let older = helper_all a (λ y z. u y (inr z)) (older_helper x (a ++ ho) g) r.1 c.1 in
      (here x (u x (inl refl)) u g r.0 c.0 older, older)
    where
      here : (x : Record) → Mem x (ha ++ ho) → Sub (x ∷ (a ++ ho)) (ha ++ ho) → HelperLegal (x ∷ (a ++ ho)) → HelperRests f fr requests x (a ++ ho) →
          HelperCloses f fr (la ++ LeaderOpen format lanes own ∷ lo) x (a ++ ho) → HelperAgrees f fr (la ++ LeaderOpen format lanes own ∷ lo) (a ++ ho) →
          HelperFits f fr (la ++ LeaderOpen format lanes own ∷ lo) x (a ++ ho)
      here (Start j n hs) p u g r c older = starts_fit j n hs p
      here (Commit j outs) p u g r c older =
          commit_fits f fr (la ++ LeaderOpen format lanes own ∷ lo) (ha ++ ho) (a ++ ho) requests j outs continues_known l_legal h_legal u g w.l_closes older (λ i ys m. (w.l_sent (ContReq i ys) m).0) r
      here (HelperClose n s c) p u g r d older = d
      here _ p u g r c older = tt

  leader_all : CommitsKnown f fr (la ++ LeaderOpen format lanes own ∷ lo) (ha ++ ho) → (a : List Record) →
      Sub (a ++ LeaderOpen format lanes own ∷ lo) (la ++ LeaderOpen format lanes own ∷ lo) →
      AllLeaderRest f fr replies a (LeaderOpen format lanes own ∷ lo) → LeaderClosesFit f fr (a ++ LeaderOpen format lanes own ∷ lo) →
      LeaderAgrees f fr (la ++ LeaderOpen format lanes own ∷ lo) (ha ++ ho) (a ++ LeaderOpen format lanes own ∷ lo)
  leader_all ck [] u r c =
      (tt, leader_grows f fr fr lo (la ++ LeaderOpen format lanes own ∷ lo) ho (ha ++ ho) lo (same_fronts fr) opening (mem_right ha ho) w.opened.0)
  leader_all ck (x ∷ a) u r c =
      (here x (u x (inl refl)) (λ y z. u y (inr z)) r.0 c.0, leader_all ck a (λ y z. u y (inr z)) r.1 c.1)
    where
      here : (x : Record) → Mem x (la ++ LeaderOpen format lanes own ∷ lo) → Sub (a ++ LeaderOpen format lanes own ∷ lo) (la ++ LeaderOpen format lanes own ∷ lo) →
          LeaderRests f fr replies x (a ++ LeaderOpen format lanes own ∷ lo) →
          LeaderCloses f fr x (a ++ LeaderOpen format lanes own ∷ lo) → LeaderFits f fr (la ++ LeaderOpen format lanes own ∷ lo) (ha ++ ho) x (a ++ LeaderOpen format lanes own ∷ lo)
      here (Accept q) p u r c = c
      here (LeaderClose n s d) p u r c = c
      here (Continue n j xs) p u r c =
          let k = continues_known n j xs p in
          (k.0, k.1, (k.2.0, k.2.1, k.2.3, (halves k.2.0, k.2.2, tags_each half_of k.2.0 ∙ sym (ap (λ (z : List (Tagged Step)). ids_of z) k.2.3 ∙ tags_each (item_of f k.0) k.2.0))))
      here (Finish j outs) p u r c =
          let con : Mem (Continue r.0 j r.3.1) (la ++ LeaderOpen format lanes own ∷ lo) = u (Continue r.0 j r.3.1) r.3.4 in
          let acc : Accepted r.0 r.3.0 (la ++ LeaderOpen format lanes own ∷ lo) =
          accepted_mono r.0 r.3.0 (a ++ LeaderOpen format lanes own ∷ lo) (la ++ LeaderOpen format lanes own ∷ lo) u r.3.3 in
          let rep = w.h_sent (ContResp j r.3.2) r.3.6 in
          let k = continues_known r.0 j r.3.1 con in
          let made = ck j r.0 (halves k.2.0) rep.0 rep.1 k.2.2 in
          let tasks : made.0 ≡ r.1 = same_task fr r.0 made.0 r.1 made.1 r.2 in
          let one = continue_one (la ++ LeaderOpen format lanes own ∷ lo) j r.0 r.0 r.3.1 (each_of (item_of f made.0) made.2.0) l_legal con made.2.2 in
          let same : r.3.0 ≡ made.2.0 = reports_one (la ++ LeaderOpen format lanes own ∷ lo) r.0 r.3.0 made.2.0 l_legal acc made.2.1
          (r.3.5 ∙ ap (λ (z : List (Tagged Step)). ids_of z) one.1 ∙ tags_each (item_of f made.0) made.2.0) in
          let its : r.3.1 ≡ each_of (item_of f r.1) r.3.0 =
          one.1 ∙ ap (λ z. each_of (item_of f z) made.2.0) tasks ∙ ap (λ z. each_of (item_of f r.1) z) (sym same) in
          let outs' : rep.0 ≡ each_of (helper_outcome f r.1) r.3.0 =
          made.2.3 ∙ ap (λ z. each_of (helper_outcome f z) made.2.0) tasks ∙ ap (λ z. each_of (helper_outcome f r.1) z) (sym same) in
          let told : r.3.2 ≡ told_statuses (each_of (helper_outcome f r.1) r.3.0) = rep.2 ∙ ap told_statuses outs' in
          let mine : outs ≡ each_of (leader_outcome f r.1) r.3.0 =
          r.3.7 ∙ ap (λ z. outs_by (share_by f r.1) r.3.0 z r.3.2) its
          ∙ ap (λ z. outs_by (share_by f r.1) r.3.0 (each_of (item_of f r.1) r.3.0) z) told ∙ outs_are f r.1 r.3.0 in (
            r.0,
            r.1,
            r.2,
            (
              r.3.0,
              acc,
              ap (λ (z : List (Tagged Outcome)). ids_of z) mine ∙ tags_each (leader_outcome f r.1) r.3.0,
              subst (λ z. HaveShares f r.1 r.3.0 z) (sym mine) (have_shares f r.1 r.3.0),
              (r.3.1, con),
              (rep.0, rep.1, ap told_statuses outs' ∙ same_statuses f r.1 r.3.0 ∙ ap told_statuses (sym mine)),
            ),
          )
      here _ p u r c = tt

  pub lanes_agree : LanesFit f fr (la ++ LeaderOpen format lanes own ∷ lo) (ha ++ ho)
  lanes_agree =
      let hf = helper_all ha (λ x z. z) h_legal w.h_rests w.h_closes in
      let ck = commits_known f fr (la ++ LeaderOpen format lanes own ∷ lo) (ha ++ ho) (ha ++ ho) continues_known l_legal h_legal (λ x z. z) hf in
      (leader_all ck la (λ x z. z) w.l_rests w.l_closes, hf)
