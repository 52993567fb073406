-- Legal journals that agree show their collections.
use Rattle.std.proofs.Common.{◌≡◌, ℕ, ◌<◌, List, [], ◌∷◌, ◌++◌, length, map, Some, refl, ap, sym, ◌∙◌, inl, inr, subst}
use Rattle.vdaf_api.specs.Functions.{Functions}
use Rattle.vdaf_api.specs.Totals.{total}
use Rattle.vdaf_api.specs.Vectors.{plus, SpaceLaws}
use Rattle.vdaf_api.specs.declared.kind.Kind.{Kind}
use Rattle.dap_batch.specs.Group.{batch_start, lane_number}
use Rattle.dap_messages.specs.declared.body.Step.{Step}
use Rattle.dap_messages.specs.declared.item.Tagged.{Tagged}
use Rattle.dap_messages.specs.declared.job.JobNo.{JobNo}
use Rattle.dap_messages.specs.declared.report.Report.{Report}
use Rattle.dap_messages.specs.Items.{ids_of}
use Rattle.dap_tasks.specs.Task.{PlainTask}
use Rattle.lane_records.specs.declared.closed.Closed.{Closed}
use Rattle.lane_records.specs.declared.outcome.Outcome.{Outcome}
use Rattle.lane_records.specs.declared.outcome.Outcome.TheVariants.{Finished}
use Rattle.lane_records.specs.declared.record.Record.{Record}
use Rattle.lane_records.specs.declared.record.Record.TheVariants.{Continue, LeaderClose, HelperClose}
use Rattle.legal_journals.specs.History.{Mem}
use Rattle.legal_journals.specs.LegalLanes.{Finishes}
use Rattle.dap_agree.specs.Agree.{Fronts, HelperCloseFits, HelperFits, HelperAgrees}
use Rattle.dap_agree.specs.Fronts.{Journals, held, AllAgree, AllLegal}
use Rattle.dap_agree.specs.Lists.{Distinct, Sub}
use Rattle.dap_messages.specs.Reports.{report_ids}
use Rattle.legal_journals.specs.JobReports.{each_of, Has}
use Rattle.dap_agree.specs.Verdicts.{IsCounted, item_of, leader_part, helper_part, leader_outcome, helper_outcome, content}
use Rattle.dap_agree.specs.Shown.{FinishedIn, CommittedIn}
use Rattle.legal_journals.specs.Told.{finished_ids, failed_ids, shares, leader_told, helper_told, numbers_of}
use Rattle.dap_agree.proofs.Journals.{continue_of, accept_one}
use Rattle.dap_agree.proofs.Lists.{the_tagged, accepted_at, tags_each, tag_in, id_in, id_of, each_in, each_out, finishes_in, finished_distinct}
use Rattle.dap_agree.proofs.Numbers.{total_pair, good, lead, help, leader_shares, helper_shares, contents_are, leader_finished, helper_finished, good_out, good_in, no_more, ids_length}
use Rattle.dap_agree.proofs.Closed.{SameCounts, told_distinct, helper_distinct, to_helper, to_leader, body_of, counts_same, helper_told_app, no_more_told}
use Rattle.dap_agree.proofs.Words.{leader_fits}
use Rattle.dap_agree.proofs.Sums.{total_same}
use Rattle.dap_agree.proofs.Stored.{accept_lane}
use Rattle.dap_agree.proofs.Told.{told_out}
use Rattle.dap_agree.proofs.Two.{Two, same_task, commit_known, finish_known, close_known}

-- ---- no report is finished twice

pub two_at : (f : Kind → Functions) (js : Journals) (k : ℕ) → AllLegal js → AllAgree f js → k < js.lanes → Two f (held js) (js.leaders k) (js.helpers k) (js.helpers k)
two_at f js k a b q = record {
  l_legal = (k, a.leaders k q);
  h_legal = (k, a.helpers k q);
  l_fits = leader_fits f (held js) (js.leaders k) (js.helpers k) (k, a.leaders k q) (b.lanes k q).0;
  h_fits = (b.lanes k q).1;
  sub = λ x p. p;
}

-- the Continue and the report of an identifier that was finished
abbrev pub Held : List Record → List ℕ → List ℕ → JobNo → Type 0
Held l n id j = (xs : List (Tagged Step)) × Mem (Continue n j xs) l × Mem id (ids_of xs) × ((r : Report) × Has n r l × (r.id ≡ id))

pub finished_held : (f : Kind → Functions) (fr : Fronts) (l h : List Record) (n id : List ℕ) (j : JobNo) → Two f fr l h h → FinishedIn l n id j → Held l n id j
finished_held f fr l h n id j w p =
    let k = finish_known f fr l h h j n p.0 p.1 w p.3 p.2 in
    let i : Mem id (report_ids k.2.0) =
    subst (λ z. Mem id z) (ap (λ (z : List (Tagged Outcome)). ids_of z) k.2.5 ∙ tags_each (leader_outcome f k.0) k.2.0) (tag_in p.1 (the_tagged id (Finished p.4.0)) p.4.1) in
    let r = id_of k.2.0 id i in (
      p.0,
      p.2,
      subst (λ z. Mem id z) (sym (ap (λ (z : List (Tagged Step)). ids_of z) k.2.2 ∙ tags_each (item_of f k.0) k.2.0)) i,
      (r.0, accepted_at n k.2.0 l r.0 k.2.1 r.1, r.2),
    )

pub committed_held : (f : Kind → Functions) (fr : Fronts) (l h : List Record) (n id : List ℕ) (j : JobNo) → Two f fr l h h → CommittedIn h n id j → Held l n id j
committed_held f fr l h n id j w p =
    let k = commit_known f fr l h h j n p.0 p.1 w p.3 p.2 in
    let i : Mem id (report_ids k.2.0) =
    subst (λ z. Mem id z) (ap (λ (z : List (Tagged Outcome)). ids_of z) k.2.3 ∙ tags_each (helper_outcome f k.0) k.2.0) (tag_in p.1 (the_tagged id (Finished p.4.0)) p.4.1) in
    let r = id_of k.2.0 id i in (
      each_of (item_of f k.0) k.2.0,
      k.2.2,
      subst (λ z. Mem id z) (sym (tags_each (item_of f k.0) k.2.0)) i,
      (r.0, accepted_at n k.2.0 l r.0 k.2.1 r.1, r.2),
    )

pub lane_of : (js : Journals) (k : ℕ) (n : List ℕ) (r : Report) → AllLegal js → k < js.lanes → Has n r (js.leaders k) → lane_number r.id js.lanes ≡ k
lane_of js k n r a p h = accept_lane js.lanes k (js.leaders k) (js.leaders k) (λ x q. q) (λ x m q e. a.opened k p x m q e) (a.leaders k p) r h.0

-- an identifier is held by one job of one lane
pub held_once : (js : Journals) (i k : ℕ) (n id : List ℕ) (j j' : JobNo) → AllLegal js →
    i < js.lanes → k < js.lanes → Held (js.leaders i) n id j → Held (js.leaders k) n id j' → (i ≡ k) × (j ≡ j')
held_once js i k n id j j' a p q x y =
    let e : i ≡ k = sym (lane_of js i n x.3.0 a p x.3.1) ∙ ap (λ z. lane_number z js.lanes) (x.3.2 ∙ sym y.3.2) ∙ lane_of js k n y.3.0 a q y.3.1 in
    (e, continue_of (js.leaders k) n j j' x.0 y.0 id (k, a.leaders k q) (subst (λ z. Mem (Continue n j x.0) (js.leaders z)) e x.1) y.1 x.2 y.2)

-- ---- Closes

-- the fields of a leader's Close are the numbers of the whole lane
pub close_whole : (f : Kind → Functions) (fr : Fronts) (l h hh : List Record) (t : PlainTask) (n : List ℕ) (s : ℕ) (c : Closed) →
    Two f fr l h hh → fr.task n ≡ Some t → Mem (LeaderClose n s c) l → c ≡ numbers_of (f t.kind).space (leader_told t.precision n s l)
close_whole f fr l h hh t n s c w e p =
    let a = close_known f fr l h l n s c w.l_fits w.l_legal p in
    let tasks : a.1.0 ≡ t = same_task fr n a.1.0 t a.1.1 e in
    a.1.4 ∙ ap (λ (z : PlainTask). numbers_of (f z.kind).space (leader_told z.precision n s a.0)) tasks
    ∙ ap (numbers_of (f t.kind).space) (sym (no_more_told f fr l n s t c a w.l_legal e))

-- the lanes' counts of a bucket that the leader's closed
pub lanes_same : (f : Kind → Functions) (fr : Fronts) (l h hh : List Record) (t : PlainTask) (n : List ℕ) (s : ℕ) (c : Closed) →
    Two f fr l h hh → fr.task n ≡ Some t → Mem (LeaderClose n s c) l → SameCounts (leader_told t.precision n s l) (helper_told t.precision n s hh)
lanes_same f fr l h hh t n s c w e p =
    let a = close_known f fr l h l n s c w.l_fits w.l_legal p in
    let same = no_more_told f fr l n s t c a w.l_legal e in
    counts_same f t n l (leader_told t.precision n s l) (helper_told t.precision n s hh) (told_distinct t n s l w.l_legal)
    (helper_distinct f fr l h hh t n s hh w (λ x z. z) w.h_legal)
    (λ o q. to_helper f fr l h hh t n s l o w e (λ y z. z) q)
    (λ o q. let b = to_leader f fr l h hh t n s c w a o e q in
    (b.0, b.1, b.2, subst (λ z. Mem (the_tagged b.0.id (leader_outcome f t b.0)) z) (sym same) b.3))

abbrev pub HelperCloseKnown : (Kind → Functions) → Fronts → List Record → List Record → List ℕ → ℕ → Closed → Type 0
HelperCloseKnown f fr l k n s c = (old : List Record) × HelperCloseFits f fr l n s c old × ((p : List Record) × (k ≡ p ++ old))

pub helper_close_known : (f : Kind → Functions) (fr : Fronts) (l k : List Record) (n : List ℕ) (s : ℕ) (c : Closed) →
    HelperAgrees f fr l k → Mem (HelperClose n s c) k → HelperCloseKnown f fr l k n s c
helper_close_known f fr l [] n s c a p = elim p [ ]
helper_close_known f fr l (x ∷ k) n s c a (inl e) = (k, subst (λ z. HelperFits f fr l z k) (sym e) a.0, (x ∷ [], refl))
helper_close_known f fr l (x ∷ k) n s c a (inr p) =
    let w = helper_close_known f fr l k n s c a.1 p in (w.0, w.1, (x ∷ w.2.0, ap (λ z. x ∷ z) w.2.1))

-- and those of a helper's Close
pub helper_close_whole : (f : Kind → Functions) (fr : Fronts) (l h hh : List Record) (t : PlainTask) (n : List ℕ) (s : ℕ) (c : Closed) →
    Two f fr l h hh → fr.task n ≡ Some t → Mem (HelperClose n s c) hh → c ≡ numbers_of (f t.kind).space (helper_told t.precision n s hh)
helper_close_whole f fr l h hh t n s c w e p =
    let a = helper_close_known f fr l hh n s c w.h_fits p in
    let tasks : a.1.0 ≡ t = same_task fr n a.1.0 t a.1.1 e in
    let app = helper_told_app t n s a.2.0 a.0 in
    let part : helper_told t.precision n s hh ≡ app.0 ++ helper_told t.precision n s a.0 = ap (helper_told t.precision n s) a.2.1 ∙ app.1 in
    let fields : c ≡ numbers_of (f t.kind).space (helper_told t.precision n s a.0) =
    a.1.3 ∙ ap (λ (z : PlainTask). numbers_of (f z.kind).space (helper_told z.precision n s a.0)) tasks in
    let d : Closed = a.1.2.0 in
    let whole : a.1.2.0 ≡ numbers_of (f t.kind).space (leader_told t.precision n s l) = close_whole f fr l h hh t n s a.1.2.0 w e a.1.2.1 in
    let both = lanes_same f fr l h hh t n s a.1.2.0 w e a.1.2.1 in
    let count : length (finished_ids (helper_told t.precision n s hh)) ≡ length (finished_ids (helper_told t.precision n s a.0)) =
    sym both.0 ∙ ap (λ (z : Closed). z.count) (sym whole) ∙ a.1.2.2 ∙ ap (λ (z : Closed). z.count) fields in
    let rejected : length (failed_ids (helper_told t.precision n s hh)) ≡ length (failed_ids (helper_told t.precision n s a.0)) =
    sym both.1 ∙ ap (λ (z : Closed). z.rejected) (sym whole) ∙ a.1.2.3 ∙ ap (λ (z : Closed). z.rejected) fields in
    fields ∙ ap (numbers_of (f t.kind).space) (sym (no_more (helper_told t.precision n s a.0) (helper_told t.precision n s hh) app.0 part count rejected))

-- ---- one lane

-- a list of outcomes by a function of accepted reports
pub reports_by : (F : Report → Outcome) (n : List ℕ) (l : List Record) (xs : List (Tagged Outcome)) →
    ((o : Tagged Outcome) → Mem o xs → (r : Report) × Has n r l × (o ≡ the_tagged r.id (F r))) →
    (rs : List Report) × (xs ≡ each_of F rs) × ((r : Report) → Mem r rs → Has n r l)
reports_by F n l [] h = ([], refl, (λ r p. elim p [ ]))
reports_by F n l (x ∷ xs) h =
    let a = h x (inl refl) in
    let b = reports_by F n l xs (λ o p. h o (inr p)) in (
      a.0 ∷ b.0,
      ap (λ z. z ∷ xs) a.2 ∙ ap (λ z. the_tagged a.0.id (F a.0) ∷ z) b.1,
      (λ r p. elim p [ inl e ↦ subst (λ z. Has n z l) (sym e) a.1 | inr q ↦ b.2 r q ]),
    )

pub distinct_reports : (rs : List Report) → Distinct (report_ids rs) → Distinct rs
distinct_reports [] d = tt
distinct_reports (r ∷ rs) d = ((λ p. d.0 (id_in rs r p)), distinct_reports rs d.1)

-- the finished reports of one lane
pub record LaneShown (f : Kind → Functions) (t : PlainTask) (n : List ℕ) (s : ℕ) (l h : List Record) (c d : Closed) (rs : List Report) : Type 0 where
  pub accepted : (r : Report) → Mem r rs → Has n r l × (batch_start r.time t.precision ≡ s)
      × Finishes r.id (leader_told t.precision n s l) × Finishes r.id (helper_told t.precision n s h)
  pub leader : (id : List ℕ) → Finishes id (leader_told t.precision n s l) → Mem id (report_ids rs)
  pub helper : (id : List ℕ) → Finishes id (helper_told t.precision n s h) → Mem id (report_ids rs)
  pub once : Distinct (report_ids rs)
  pub many : length rs ≡ c.count
  pub counted : (r : Report) → Mem r rs → IsCounted f t r
  pub exact : plus (f t.kind).space c.share d.share ≡ total (f t.kind).space (map (content f t) rs)

pub lane_shown : (f : Kind → Functions) (fr : Fronts) (l h : List Record) (t : PlainTask) (n : List ℕ) (s : ℕ) (c d : Closed) → SpaceLaws (f t.kind).space →
    Two f fr l h h → fr.task n ≡ Some t → Mem (LeaderClose n s c) l → Mem (HelperClose n s d) h →
    (rs : List Report) × LaneShown f t n s l h c d rs
lane_shown f fr l h t n s c d laws w e p q =
    let k = close_known f fr l h l n s c w.l_fits w.l_legal p in
    let part : leader_told t.precision n s l ≡ leader_told t.precision n s k.0 = no_more_told f fr l n s t c k w.l_legal e in
    let mine : c ≡ numbers_of (f t.kind).space (leader_told t.precision n s l) = close_whole f fr l h h t n s c w e p in
    let theirs : d ≡ numbers_of (f t.kind).space (helper_told t.precision n s h) = helper_close_whole f fr l h h t n s d w e q in
    let L = reports_by (leader_outcome f t) n l (leader_told t.precision n s l)
    (λ o z. let x = to_helper f fr l h h t n s l o w e (λ y v. v) z in (x.0, x.1, x.2)) in
    let H = reports_by (helper_outcome f t) n l (helper_told t.precision n s h)
    (λ o z. let x = to_leader f fr l h h t n s c w k o e z in (x.0, x.1, x.2)) in
    let l_done : finished_ids (leader_told t.precision n s l) ≡ report_ids (good f t L.0) = ap finished_ids L.1 ∙ leader_finished f t L.0 in
    let h_done : finished_ids (helper_told t.precision n s h) ≡ report_ids (good f t H.0) = ap finished_ids H.1 ∙ helper_finished f t H.0 in
    let l_once : Distinct (report_ids (good f t L.0)) =
    subst (λ (z : List (List ℕ)). Distinct z) l_done (finished_distinct (leader_told t.precision n s l) (told_distinct t n s l w.l_legal)) in
    let h_once : Distinct (report_ids (good f t H.0)) =
    subst (λ (z : List (List ℕ)). Distinct z) h_done (finished_distinct (helper_told t.precision n s h) (helper_distinct f fr l h h t n s h w (λ x z. z) w.h_legal)) in
    let over : (r : Report) → Mem r L.0 → Mem (the_tagged r.id (helper_outcome f t r)) (helper_told t.precision n s h) =
    λ r z.
    let o : Mem (the_tagged r.id (leader_outcome f t r)) (leader_told t.precision n s l) =
    subst (λ v. Mem (the_tagged r.id (leader_outcome f t r)) v) (sym L.1) (each_in (leader_outcome f t) L.0 r z) in
    let x = to_helper f fr l h h t n s l (the_tagged r.id (leader_outcome f t r)) w e (λ y v. v) o in
    let same : x.0 ≡ r = accept_one l n x.0 r w.l_legal x.1 (L.2 r z) (sym (body_of r.id x.0.id (leader_outcome f t r) (leader_outcome f t x.0) x.2).0) in
    subst (λ (v : Report). Mem (the_tagged v.id (helper_outcome f t v)) (helper_told t.precision n s h)) same x.3 in
    let back : (r : Report) → Mem r H.0 → Mem (the_tagged r.id (leader_outcome f t r)) (leader_told t.precision n s l) =
    λ r z.
    let o : Mem (the_tagged r.id (helper_outcome f t r)) (helper_told t.precision n s h) =
    subst (λ v. Mem (the_tagged r.id (helper_outcome f t r)) v) (sym H.1) (each_in (helper_outcome f t) H.0 r z) in
    let x = to_leader f fr l h h t n s c w k (the_tagged r.id (helper_outcome f t r)) e o in
    let same : x.0 ≡ r = accept_one l n x.0 r w.l_legal x.1 (H.2 r z) (sym (body_of r.id x.0.id (helper_outcome f t r) (helper_outcome f t x.0) x.2).0) in
    subst (λ (v : Report). Mem (the_tagged v.id (leader_outcome f t v)) (leader_told t.precision n s l)) same
    (subst (λ v. Mem (the_tagged x.0.id (leader_outcome f t x.0)) v) (sym part) x.3) in
    let to : Sub L.0 H.0 = λ r z.
    let o = each_out (helper_outcome f t) H.0 (the_tagged r.id (helper_outcome f t r)) (subst (λ v. Mem (the_tagged r.id (helper_outcome f t r)) v) H.1 (over r z)) in
    subst (λ v. Mem v H.0) (accept_one l n o.0 r w.l_legal (H.2 o.0 o.1) (L.2 r z) (sym (body_of r.id o.0.id (helper_outcome f t r) (helper_outcome f t o.0) o.2).0)) o.1 in
    let from : Sub H.0 L.0 = λ r z.
    let o = each_out (leader_outcome f t) L.0 (the_tagged r.id (leader_outcome f t r)) (subst (λ v. Mem (the_tagged r.id (leader_outcome f t r)) v) L.1 (back r z)) in
    subst (λ v. Mem v L.0) (accept_one l n o.0 r w.l_legal (L.2 o.0 o.1) (H.2 r z) (sym (body_of r.id o.0.id (leader_outcome f t r) (leader_outcome f t o.0) o.2).0)) o.1 in
    let good_to : Sub (good f t L.0) (good f t H.0) = λ r z. let g = good_out f t L.0 r z in good_in f t H.0 r (to r g.0) g.1 in
    let good_from : Sub (good f t H.0) (good f t L.0) = λ r z. let g = good_out f t H.0 r z in good_in f t L.0 r (from r g.0) g.1 in
    let my_share : c.share ≡ total (f t.kind).space (map (lead f t) (good f t L.0)) =
    ap (λ (z : Closed). z.share) mine ∙ ap (λ z. total (f t.kind).space (shares z)) L.1 ∙ ap (total (f t.kind).space) (leader_shares f t L.0) in
    let their_share : d.share ≡ total (f t.kind).space (map (help f t) (good f t L.0)) =
    ap (λ (z : Closed). z.share) theirs ∙ ap (λ z. total (f t.kind).space (shares z)) H.1 ∙ ap (total (f t.kind).space) (helper_shares f t H.0)
    ∙ total_same (help f t) (good f t H.0) (good f t L.0) laws (distinct_reports (good f t H.0) h_once) (distinct_reports (good f t L.0) l_once) good_from good_to in (
      good f t L.0,
      record {
        accepted = λ r z.
            let g = good_out f t L.0 r z in
            let o : Mem (the_tagged r.id (leader_outcome f t r)) (leader_told t.precision n s l) =
            subst (λ v. Mem (the_tagged r.id (leader_outcome f t r)) v) (sym L.1) (each_in (leader_outcome f t) L.0 r g.0) in
            let b = told_out t n s l (the_tagged r.id (leader_outcome f t r)) o in
            let same : b.3 ≡ r = accept_one l n b.3 r w.l_legal b.7 (L.2 r g.0) b.8 in (
              L.2 r g.0,
              ap (λ (v : Report). batch_start v.time t.precision) (sym same) ∙ b.9,
              (g.1.0, subst (λ v. Mem (the_tagged r.id v) (leader_told t.precision n s l)) (ap leader_part g.1.2) o),
              (g.1.1, subst (λ v. Mem (the_tagged r.id v) (helper_told t.precision n s h)) (ap helper_part g.1.2) (over r g.0)),
            );
        leader = λ id z. subst (λ v. Mem id v) l_done (finishes_in (leader_told t.precision n s l) id z);
        helper = λ id z.
            let a = id_of (good f t H.0) id (subst (λ v. Mem id v) h_done (finishes_in (helper_told t.precision n s h) id z)) in
            subst (λ v. Mem v (report_ids (good f t L.0))) a.2 (id_in (good f t L.0) a.0 (good_from a.0 a.1));
        once = l_once;
        counted = λ r z. (good_out f t L.0 r z).1;
        many = sym (ids_length (good f t L.0)) ∙ ap length (sym l_done) ∙ ap (λ (z : Closed). z.count) (sym mine);
        exact = ap (λ z. plus (f t.kind).space z d.share) my_share
            ∙ ap (λ z. plus (f t.kind).space (total (f t.kind).space (map (lead f t) (good f t L.0))) z) their_share
            ∙ total_pair laws (lead f t) (help f t) (good f t L.0) ∙ ap (total (f t.kind).space) (contents_are f t L.0);
      },
    )
