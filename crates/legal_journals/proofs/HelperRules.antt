-- Lemmas: the tests of a helper's lane decide its rules.
use Rattle.std.proofs.Common.{◌≡◌, ℕ, ◌==◌, true, false, not, ◌&&◌, List, reverse, Decides, bytes_eq, refl, ap, subst, ◌∙◌}
use Rattle.std.proofs.lemmas.Bool.{and_parts, and_from, eqb-true, not-true, not_from_false, false_from_ne_true}
use Rattle.std.proofs.lemmas.Bool.Decides.{Decides-and, Decides-not, Decides-eqb}
use Rattle.std.proofs.lemmas.Slice.Eq.{bytes_eq-Decides}
use Rattle.std.specs.List.{list_any, list_all}
use Rattle.dap_messages.specs.declared.job.JobNo.{JobNo}
use Rattle.dap_messages.specs.declared.body.Half.{Half}
use Rattle.dap_messages.specs.declared.item.Tagged.{Tagged}
use Rattle.dap_messages.specs.Items.{ids_of}
use Rattle.lane_records.specs.declared.outcome.Outcome.{Outcome}
use Rattle.lane_records.specs.declared.outcome.Outcome.TheVariants.{Finished, Failed}
use Rattle.lane_records.specs.declared.closed.Closed.{Closed}
use Rattle.lane_records.specs.declared.record.Record.{Record}
use Rattle.lane_records.specs.declared.record.Record.TheVariants.{HelperOpen, Start, Commit, HelperClose}
use Rattle.legal_journals.specs.History.{Mem, IsOfLane}
use Rattle.legal_journals.specs.LegalLanes.{IsStarted, IsCommitted, Finishes, WasFinished, IsStartedFor, IsHelperClosed, HelperLaneMay}
use Rattle.legal_journals.specs.HistoryTests.{is_of_lane, same_ids}
use Rattle.dap_messages.specs.Jobs.{is_same_job}
use Rattle.dap_messages.specs.JobLaws.{same_job-Decides}
use Rattle.legal_journals.specs.LaneTests.{starts_job, starts_under, commits_job, is_finished, finishes, commits_report, was_finished, is_new, starts_for, helper_closes, may_start, helper_lane_may}
use Rattle.legal_journals.proofs.Members.{any_decides, one_decides, any_tells, any_told, all_tells, all_told}
use Rattle.legal_journals.proofs.ItemTests.{same_batch, same_ids-Decides, each_id-Decides}
use Rattle.legal_journals.proofs.OpenTests.{is_of_lane-Decides}
use Rattle.legal_journals.proofs.LeaderRules.{lane_open-Decides}

-- ---- outcomes

finished-tells : (o : Outcome) → is_finished o ≡ true → (out : List ℕ) × (o ≡ Finished out)
finished-tells (Finished out) e = (out, refl)
finished-tells (Failed c) e = absurd cc

abbrev the_outcome : List ℕ → Outcome → Tagged Outcome
the_outcome id body = record { id = id; body = body }

pub finishes-Decides : (id : List ℕ) (outs : List (Tagged Outcome)) → Decides (finishes id outs) (Finishes id outs)
finishes-Decides id outs = (
  λ e.
      let found = any_tells (λ (x : Tagged Outcome). bytes_eq x.id id && is_finished x.body) outs e in
      let parts = and_parts (bytes_eq found.0.id id) (is_finished found.0.body) found.2 in
      let out = finished-tells found.0.body parts.1 in
      let same : found.0 ≡ the_outcome id (Finished out.0) =
      ap (λ (i : List ℕ). the_outcome i found.0.body) ((bytes_eq-Decides found.0.id id).0 parts.0) ∙ ap (λ (o : Outcome). the_outcome id o) out.1 in
      (out.0, subst (λ (x : Tagged Outcome). Mem x outs) same found.1),
  λ h.
      any_told (λ (x : Tagged Outcome). bytes_eq x.id id && is_finished x.body) outs (the_outcome id (Finished h.0)) h.1
      (and_from (bytes_eq id id) true ((bytes_eq-Decides id id).1 refl) refl),
)

-- ---- single records

starts_job-tells : (j : JobNo) (x : Record) → starts_job j x ≡ true → (n : List ℕ) × (hs : List (Tagged Half)) × (x ≡ Start j n hs)
starts_job-tells j (Start job n hs) e = (n, hs, ap (λ (i : JobNo). Start i n hs) ((same_job-Decides job j).0 e))
starts_job-tells j _ e = absurd cc

pub starts_under-tells : (n : List ℕ) (j : JobNo) (x : Record) → starts_under n j x ≡ true → (hs : List (Tagged Half)) × (x ≡ Start j n hs)
starts_under-tells n j (Start job name hs) e =
    let parts = and_parts (is_same_job job j) (bytes_eq name n) e in
    (hs, ap (λ (i : JobNo). Start i name hs) ((same_job-Decides job j).0 parts.0) ∙ ap (λ (i : List ℕ). Start j i hs) ((bytes_eq-Decides name n).0 parts.1))
starts_under-tells n j _ e = absurd cc

commits_job-tells : (j : JobNo) (x : Record) → commits_job j x ≡ true → (outs : List (Tagged Outcome)) × (x ≡ Commit j outs)
commits_job-tells j (Commit job outs) e = (outs, ap (λ (i : JobNo). Commit i outs) ((same_job-Decides job j).0 e))
commits_job-tells j _ e = absurd cc

pub commits_report-tells : (n id : List ℕ) (earlier : List Record) (x : Record) → commits_report n id earlier x ≡ true
    → (j : JobNo) × (outs : List (Tagged Outcome)) × (x ≡ Commit j outs) × Finishes id outs × (list_any (starts_under n j) earlier ≡ true)
commits_report-tells n id earlier (Commit job outs) e =
    let parts = and_parts (finishes id outs) (list_any (starts_under n job) earlier) e in
    (job, outs, refl, (finishes-Decides id outs).0 parts.0, parts.1)
commits_report-tells n id earlier _ e = absurd cc

closes-tells : (n : List ℕ) (s : ℕ) (x : Record) → helper_closes n s x ≡ true → (c : Closed) × (x ≡ HelperClose n s c)
closes-tells n s (HelperClose name start c) e =
    let parts = and_parts (bytes_eq name n) (start == s) e in
    (c, ap (λ (i : List ℕ). HelperClose i start c) ((bytes_eq-Decides name n).0 parts.0) ∙ ap (λ (i : ℕ). HelperClose n i c) (eqb-true start s parts.1))
closes-tells n s _ e = absurd cc

-- ---- what stands before

started-Decides : (j : JobNo) (earlier : List Record) → Decides (list_any (starts_job j) earlier) (IsStarted j (reverse earlier))
started-Decides j earlier =
    any_decides (starts_job j) earlier
    (λ x m t. let h = starts_job-tells j x t in (h.0, h.1, subst (λ (z : Record). Mem z (reverse earlier)) h.2 m))
    (λ (n, hs, m). (Start j n hs, m, (same_job-Decides j j).1 refl))

started_under-Decides : (n : List ℕ) (j : JobNo) (earlier : List Record)
    → Decides (list_any (starts_under n j) earlier) ((hs : List (Tagged Half)) × Mem (Start j n hs) (reverse earlier))
started_under-Decides n j earlier =
    one_decides (starts_under n j) (Start j n) earlier (starts_under-tells n j) (λ hs. and_from (is_same_job j j) (bytes_eq n n) ((same_job-Decides j j).1 refl) ((bytes_eq-Decides n n).1 refl))

committed-Decides : (j : JobNo) (earlier : List Record) → Decides (list_any (commits_job j) earlier) (IsCommitted j (reverse earlier))
committed-Decides j earlier = one_decides (commits_job j) (Commit j) earlier (commits_job-tells j) (λ outs. (same_job-Decides j j).1 refl)

closed-Decides : (n : List ℕ) (s : ℕ) (earlier : List Record) → Decides (list_any (helper_closes n s) earlier) (IsHelperClosed n s (reverse earlier))
closed-Decides n s earlier = one_decides (helper_closes n s) (HelperClose n s) earlier (closes-tells n s) (λ c. same_batch n s)

was_finished-Decides : (n id : List ℕ) (earlier : List Record) → Decides (was_finished n id earlier) (WasFinished n id (reverse earlier))
was_finished-Decides n id earlier =
    any_decides (commits_report n id earlier) earlier
    (λ x m t.
    let h = commits_report-tells n id earlier x t in
    let under = (started_under-Decides n h.0 earlier).0 h.4 in
    (h.0, under.0, h.1, under.1, subst (λ (z : Record). Mem z (reverse earlier)) h.2 m, h.3))
    (λ (j, hs, outs, started, committed, finished). (
      Commit j outs,
      committed,
      and_from (finishes id outs) (list_any (starts_under n j) earlier) ((finishes-Decides id outs).1 finished) ((started_under-Decides n j earlier).1 (hs, started)),
    ))

-- ---- the rules

-- no outcome finishes a report again
new-Decides : (n : List ℕ) (earlier : List Record) (outs : List (Tagged Outcome))
    → Decides (list_all (is_new n earlier) outs) ((id : List ℕ) → Finishes id outs → ¬ (WasFinished n id (reverse earlier)))
new-Decides n earlier outs = (
  λ e id f was.
      let new : not (was_finished n id earlier) ≡ true = all_tells (is_new n earlier) outs e (the_outcome id (Finished f.0)) f.1 in
      let no : was_finished n id earlier ≡ false = not-true (was_finished n id earlier) new in
      let yes : was_finished n id earlier ≡ true = (was_finished-Decides n id earlier).1 was in
      cc,
  λ each.
      all_told (is_new n earlier) outs (λ x m.
      not_from_false (is_finished x.body && was_finished n x.id earlier)
      (false_from_ne_true (is_finished x.body && was_finished n x.id earlier) (λ e.
      let parts = and_parts (is_finished x.body) (was_finished n x.id earlier) e in
      let out = finished-tells x.body parts.0 in
      let same : x ≡ the_outcome x.id (Finished out.0) = ap (λ (o : Outcome). the_outcome x.id o) out.1 in
      each x.id (out.0, subst (λ (z : Tagged Outcome). Mem z outs) same m) ((was_finished-Decides n x.id earlier).0 parts.1)))),
)

starts_for-tells : (j : JobNo) (outs : List (Tagged Outcome)) (earlier : List Record) (x : Record) → starts_for j outs earlier x ≡ true
    → (n : List ℕ) × (hs : List (Tagged Half)) × (x ≡ Start j n hs) × (ids_of hs ≡ ids_of outs)
    × ((id : List ℕ) → Finishes id outs → ¬ (WasFinished n id (reverse earlier)))
starts_for-tells j outs earlier (Start job n hs) e =
    let p = and_parts (is_same_job job j && same_ids hs outs) (list_all (is_new n earlier) outs) e in
    let q = and_parts (is_same_job job j) (same_ids hs outs) p.0 in
    (n, hs, ap (λ (i : JobNo). Start i n hs) ((same_job-Decides job j).0 q.0), (same_ids-Decides hs outs).0 q.1, (new-Decides n earlier outs).0 p.1)
starts_for-tells j outs earlier _ e = absurd cc

started_for-Decides : (j : JobNo) (outs : List (Tagged Outcome)) (earlier : List Record) → Decides (list_any (starts_for j outs earlier) earlier) (IsStartedFor j outs (reverse earlier))
started_for-Decides j outs earlier =
    any_decides (starts_for j outs earlier) earlier
    (λ x m t. let h = starts_for-tells j outs earlier x t in (h.0, h.1, subst (λ (z : Record). Mem z (reverse earlier)) h.2 m, h.3, h.4))
    (λ (n, hs, m, same, new). (
      Start j n hs,
      m,
      and_from (is_same_job j j && same_ids hs outs) (list_all (is_new n earlier) outs)
          (and_from (is_same_job j j) (same_ids hs outs) ((same_job-Decides j j).1 refl) ((same_ids-Decides hs outs).1 same))
          ((new-Decides n earlier outs).1 new),
    ))

may_start-Decides : (lane : ℕ) (j : JobNo) (n : List ℕ) (hs : List (Tagged Half)) (earlier : List Record)
    → Decides (may_start lane j hs earlier) (HelperLaneMay lane (Start j n hs) (reverse earlier))
may_start-Decides lane j n hs earlier =
    let here = j.lane == lane in
    let each = list_all (λ (x : Tagged Half). is_of_lane lane x.id earlier) hs in
    let new = not (list_any (starts_job j) earlier) in
    let d0 = Decides-eqb j.lane lane in
    let d1 = each_id-Decides (λ (x : Tagged Half). is_of_lane lane x.id earlier) (λ id. IsOfLane lane id (reverse earlier)) (λ x. is_of_lane-Decides lane x.id earlier) hs in
    let d2 = Decides-not (list_any (starts_job j) earlier) (started-Decides j earlier) in (
      λ e.
          let p = and_parts (here && each) new e in
          let q = and_parts here each p.0 in
          (d0.0 q.0, d1.0 q.1, d2.0 p.1),
      λ h. and_from (here && each) new (and_from here each (d0.1 h.0) (d1.1 h.1)) (d2.1 h.2),
    )

pub helper_lane_may-Decides : (lane : ℕ) (x : Record) (earlier : List Record) → Decides (helper_lane_may lane x earlier) (HelperLaneMay lane x (reverse earlier))
helper_lane_may-Decides lane (HelperOpen f lanes own) earlier = lane_open-Decides f lane lanes own earlier
helper_lane_may-Decides lane (Start j n hs) earlier = may_start-Decides lane j n hs earlier
helper_lane_may-Decides lane (Commit j outs) earlier =
    Decides-and _ _ (started_for-Decides j outs earlier) (Decides-not (list_any (commits_job j) earlier) (committed-Decides j earlier))
helper_lane_may-Decides lane (HelperClose n s c) earlier = Decides-not (list_any (helper_closes n s) earlier) (closed-Decides n s earlier)
helper_lane_may-Decides lane _ earlier = (λ e. absurd cc, λ h. absurd h)
