-- Lemmas: the tests of a leader's lane decide its rules.
use Rattle.std.proofs.Common.{◌≡◌, ℕ, ◌<◌, ◌==◌, nat_lt, true, not, ◌&&◌, List, reverse, Decides, bytes_eq, count_by, refl, ap, subst, ◌∙◌}
use Rattle.std.proofs.lemmas.Bool.{and_parts, and_from, eqb-true}
use Rattle.std.proofs.lemmas.Bool.Decides.{Decides-and, Decides-not, Decides-eqb, Decides-ltb}
use Rattle.std.proofs.lemmas.Slice.Eq.{bytes_eq-Decides}
use Rattle.std.specs.List.{list_any, list_all}
use Rattle.dap_messages.specs.declared.job.JobNo.{JobNo}
use Rattle.dap_messages.specs.declared.body.Step.{Step}
use Rattle.dap_messages.specs.declared.item.Tagged.{Tagged}
use Rattle.dap_messages.specs.declared.report.Report.{Report}
use Rattle.dap_messages.specs.Items.{ids_of}
use Rattle.lane_records.specs.declared.outcome.Outcome.{Outcome}
use Rattle.lane_records.specs.declared.closed.Closed.{Closed}
use Rattle.lane_records.specs.declared.format.Format.{Format}
use Rattle.lane_records.specs.declared.record.Record.{Record}
use Rattle.lane_records.specs.declared.record.Record.TheVariants.{LeaderOpen, Accept, Continue, Finish, LeaderClose}
use Rattle.legal_journals.specs.History.{Mem, opens, MayOpen}
use Rattle.legal_journals.specs.LegalLanes.{WasAccepted, WasContinued, IsContinued, IsContinuedWith, IsFinished, IsLeaderClosed, LeaderLaneMay}
use Rattle.legal_journals.specs.HistoryTests.{is_open, may_open, has_id, same_ids}
use Rattle.dap_messages.specs.Jobs.{is_same_job}
use Rattle.dap_messages.specs.JobLaws.{same_job-Decides}
use Rattle.legal_journals.specs.LaneTests.{accepts, continues_report, continues_job, continues_with, finishes_job, leader_closes, is_waiting, may_continue, leader_lane_may}
use Rattle.legal_journals.proofs.Members.{any_decides, one_decides}
use Rattle.legal_journals.proofs.ItemTests.{same_batch, has_id-Decides, same_ids-Decides, each_id-Decides}
use Rattle.legal_journals.proofs.OpenTests.{opens-reverse, may_open-Decides, is_of_lane-Decides}

-- ---- single records

accepts-tells : (n id : List ℕ) (x : Record) → accepts n id x ≡ true → (r : Report) × (x ≡ Accept r) × (r.name ≡ n) × (r.id ≡ id)
accepts-tells n id (Accept r) e =
    let parts = and_parts (bytes_eq r.name n) (bytes_eq r.id id) e in
    (r, refl, (bytes_eq-Decides r.name n).0 parts.0, (bytes_eq-Decides r.id id).0 parts.1)
accepts-tells n id _ e = absurd cc

continues_report-tells : (n id : List ℕ) (x : Record) → continues_report n id x ≡ true → (j : JobNo) × (xs : List (Tagged Step)) × (x ≡ Continue n j xs) × Mem id (ids_of xs)
continues_report-tells n id (Continue name j xs) e =
    let parts = and_parts (bytes_eq name n) (has_id id xs) e in
    (j, xs, ap (λ (i : List ℕ). Continue i j xs) ((bytes_eq-Decides name n).0 parts.0), (has_id-Decides id xs).0 parts.1)
continues_report-tells n id _ e = absurd cc

continues_job-tells : (j : JobNo) (x : Record) → continues_job j x ≡ true → (n : List ℕ) × (xs : List (Tagged Step)) × (x ≡ Continue n j xs)
continues_job-tells j (Continue n job xs) e = (n, xs, ap (λ (i : JobNo). Continue n i xs) ((same_job-Decides job j).0 e))
continues_job-tells j _ e = absurd cc

continues_with-tells : (j : JobNo) (outs : List (Tagged Outcome)) (x : Record) → continues_with j outs x ≡ true
    → (n : List ℕ) × (xs : List (Tagged Step)) × (x ≡ Continue n j xs) × (ids_of xs ≡ ids_of outs)
continues_with-tells j outs (Continue n job xs) e =
    let parts = and_parts (is_same_job job j) (same_ids xs outs) e in
    (n, xs, ap (λ (i : JobNo). Continue n i xs) ((same_job-Decides job j).0 parts.0), (same_ids-Decides xs outs).0 parts.1)
continues_with-tells j outs _ e = absurd cc

finishes_job-tells : (j : JobNo) (x : Record) → finishes_job j x ≡ true → (outs : List (Tagged Outcome)) × (x ≡ Finish j outs)
finishes_job-tells j (Finish job outs) e = (outs, ap (λ (i : JobNo). Finish i outs) ((same_job-Decides job j).0 e))
finishes_job-tells j _ e = absurd cc

closes-tells : (n : List ℕ) (s : ℕ) (x : Record) → leader_closes n s x ≡ true → (c : Closed) × (x ≡ LeaderClose n s c)
closes-tells n s (LeaderClose name start c) e =
    let parts = and_parts (bytes_eq name n) (start == s) e in
    (c, ap (λ (i : List ℕ). LeaderClose i start c) ((bytes_eq-Decides name n).0 parts.0) ∙ ap (λ (i : ℕ). LeaderClose n i c) (eqb-true start s parts.1))
closes-tells n s _ e = absurd cc

-- ---- what stands before

accepted-Decides : (n id : List ℕ) (earlier : List Record) → Decides (list_any (accepts n id) earlier) (WasAccepted n id (reverse earlier))
accepted-Decides n id earlier =
    any_decides (accepts n id) earlier
    (λ x m t. let h = accepts-tells n id x t in (h.0, subst (λ (z : Record). Mem z (reverse earlier)) h.1 m, h.2, h.3))
    (λ (r, m, name, is). (Accept r, m, and_from (bytes_eq r.name n) (bytes_eq r.id id) ((bytes_eq-Decides r.name n).1 name) ((bytes_eq-Decides r.id id).1 is)))

report_continued-Decides : (n id : List ℕ) (earlier : List Record) → Decides (list_any (continues_report n id) earlier) (WasContinued n id (reverse earlier))
report_continued-Decides n id earlier =
    any_decides (continues_report n id) earlier
    (λ x m t. let h = continues_report-tells n id x t in (h.0, h.1, subst (λ (z : Record). Mem z (reverse earlier)) h.2 m, h.3))
    (λ (j, xs, m, is). (Continue n j xs, m, and_from (bytes_eq n n) (has_id id xs) ((bytes_eq-Decides n n).1 refl) ((has_id-Decides id xs).1 is)))

continued-Decides : (j : JobNo) (earlier : List Record) → Decides (list_any (continues_job j) earlier) (IsContinued j (reverse earlier))
continued-Decides j earlier =
    any_decides (continues_job j) earlier
    (λ x m t. let h = continues_job-tells j x t in (h.0, h.1, subst (λ (z : Record). Mem z (reverse earlier)) h.2 m))
    (λ (n, xs, m). (Continue n j xs, m, (same_job-Decides j j).1 refl))

continued_with-Decides : (j : JobNo) (outs : List (Tagged Outcome)) (earlier : List Record) → Decides (list_any (continues_with j outs) earlier) (IsContinuedWith j (ids_of outs) (reverse earlier))
continued_with-Decides j outs earlier =
    any_decides (continues_with j outs) earlier
    (λ x m t. let h = continues_with-tells j outs x t in (h.0, h.1, subst (λ (z : Record). Mem z (reverse earlier)) h.2 m, h.3))
    (λ (n, xs, m, same). (Continue n j xs, m, and_from (is_same_job j j) (same_ids xs outs) ((same_job-Decides j j).1 refl) ((same_ids-Decides xs outs).1 same)))

finished-Decides : (j : JobNo) (earlier : List Record) → Decides (list_any (finishes_job j) earlier) (IsFinished j (reverse earlier))
finished-Decides j earlier = one_decides (finishes_job j) (Finish j) earlier (finishes_job-tells j) (λ outs. (same_job-Decides j j).1 refl)

closed-Decides : (n : List ℕ) (s : ℕ) (earlier : List Record) → Decides (list_any (leader_closes n s) earlier) (IsLeaderClosed n s (reverse earlier))
closed-Decides n s earlier = one_decides (leader_closes n s) (LeaderClose n s) earlier (closes-tells n s) (λ c. same_batch n s)

-- ---- the rules

waiting-Decides : (n : List ℕ) (earlier : List Record) (x : Tagged Step)
    → Decides (is_waiting n earlier x) (WasAccepted n x.id (reverse earlier) × ¬ (WasContinued n x.id (reverse earlier)))
waiting-Decides n earlier x =
    Decides-and (list_any (accepts n x.id) earlier) (not (list_any (continues_report n x.id) earlier)) (accepted-Decides n x.id earlier)
    (Decides-not (list_any (continues_report n x.id) earlier) (report_continued-Decides n x.id earlier))

incarnation-Decides : (k : ℕ) (earlier : List Record) → Decides (k == count_by is_open earlier) (k ≡ opens (reverse earlier))
incarnation-Decides k earlier = subst (λ (n : ℕ). Decides (k == n) (k ≡ opens (reverse earlier))) (opens-reverse earlier) (Decides-eqb k (opens (reverse earlier)))

may_continue-Decides : (lane : ℕ) (n : List ℕ) (j : JobNo) (xs : List (Tagged Step)) (earlier : List Record)
    → Decides (may_continue lane n j xs earlier) (LeaderLaneMay lane (Continue n j xs) (reverse earlier))
may_continue-Decides lane n j xs earlier =
    let here = j.lane == lane in
    let now = j.incarnation == count_by is_open earlier in
    let new = not (list_any (continues_job j) earlier) in
    let each = list_all (is_waiting n earlier) xs in
    let d0 = Decides-eqb j.lane lane in
    let d1 = incarnation-Decides j.incarnation earlier in
    let d2 = Decides-not (list_any (continues_job j) earlier) (continued-Decides j earlier) in
    let d3 = each_id-Decides (is_waiting n earlier) (λ id. WasAccepted n id (reverse earlier) × ¬ (WasContinued n id (reverse earlier))) (waiting-Decides n earlier) xs in (
      λ e.
          let p = and_parts (here && now && new) each e in
          let q = and_parts (here && now) new p.0 in
          let r = and_parts here now q.0 in
          (d0.0 r.0, d1.0 r.1, d2.0 q.1, d3.0 p.1),
      λ h. and_from (here && now && new) each (and_from (here && now) new (and_from here now (d0.1 h.0) (d1.1 h.1)) (d2.1 h.2)) (d3.1 h.3),
    )

-- an Open of a lane
pub lane_open-Decides : (f : Format) (lane lanes own : ℕ) (earlier : List Record)
    → Decides (may_open f lanes earlier && own == lane && nat_lt lane lanes) (MayOpen f lanes (reverse earlier) × (own ≡ lane) × (lane < lanes))
lane_open-Decides f lane lanes own earlier =
    let d0 = may_open-Decides f lanes earlier in
    let d1 = Decides-eqb own lane in
    let d2 = Decides-ltb lane lanes in (
      λ e.
          let p = and_parts (may_open f lanes earlier && own == lane) (nat_lt lane lanes) e in
          let q = and_parts (may_open f lanes earlier) (own == lane) p.0 in
          (d0.0 q.0, d1.0 q.1, d2.0 p.1),
      λ h. and_from (may_open f lanes earlier && own == lane) (nat_lt lane lanes) (and_from (may_open f lanes earlier) (own == lane) (d0.1 h.0) (d1.1 h.1)) (d2.1 h.2),
    )

pub leader_lane_may-Decides : (lane : ℕ) (x : Record) (earlier : List Record) → Decides (leader_lane_may lane x earlier) (LeaderLaneMay lane x (reverse earlier))
leader_lane_may-Decides lane (LeaderOpen f lanes own) earlier = lane_open-Decides f lane lanes own earlier
leader_lane_may-Decides lane (Accept r) earlier =
    Decides-and _ _ (is_of_lane-Decides lane r.id earlier) (Decides-not (list_any (accepts r.name r.id) earlier) (accepted-Decides r.name r.id earlier))
leader_lane_may-Decides lane (Continue n j xs) earlier = may_continue-Decides lane n j xs earlier
leader_lane_may-Decides lane (Finish j outs) earlier =
    Decides-and _ _ (continued_with-Decides j outs earlier) (Decides-not (list_any (finishes_job j) earlier) (finished-Decides j earlier))
leader_lane_may-Decides lane (LeaderClose n s c) earlier = Decides-not (list_any (leader_closes n s) earlier) (closed-Decides n s earlier)
leader_lane_may-Decides lane _ earlier = (λ e. absurd cc, λ h. absurd h)
