-- Lemmas: the index of a leader lane's records, with one more and without it.
use Rattle.std.proofs.Common.{◌≡◌, ◌≢◌, ℕ, Bool, true, false, ◌&&◌, cond, List, [], ◌∷◌, ◌++◌, Option, Some, None, bytes_eq, refl, sym, ap, subst, ◌∙◌}
use Rattle.std.specs.Option.{option_or}
use Rattle.std.specs.List.{list_any}
use Rattle.std.specs.Ordering.{is_eq}
use Rattle.dap_messages.specs.declared.job.JobNo.{JobNo}
use Rattle.dap_messages.specs.declared.body.Step.{Step}
use Rattle.dap_messages.specs.declared.item.Tagged.{Tagged}
use Rattle.dap_messages.specs.declared.report.Report.{Report as Told}
use Rattle.lane_records.specs.declared.outcome.Outcome.{Outcome}
use Rattle.lane_records.specs.declared.closed.Closed.{Closed}
use Rattle.lane_records.specs.declared.record.Record.{Record}
use Rattle.lane_records.specs.declared.record.Record.TheVariants.{Accept, Continue, Finish, LeaderClose}
use Rattle.dap_messages.specs.Jobs.{is_same_job}
use Rattle.legal_journals.specs.HistoryTests.{has_id}
use Rattle.legal_journals.specs.LaneTests.{accepts, continues_report, continues_job, finishes_job, leader_closes}
use Rattle.legal_journals.specs.declared.opens.Opens.{Opens}
use Rattle.legal_journals.specs.declared.leader_index.LeaderIndex.{LeaderIndex}
use Rattle.legal_journals.specs.LeaderIndexed.{LeaderIndexes}
use Rattle.legal_journals.specs.Places.{AreOpens, HasPlaces}
use Rattle.legal_journals.specs.Reports.{Report, Batch, Job, job_of, among, report_order, batch_order, job_order}
use Rattle.legal_journals.specs.Tables.{at, given, without}
use Rattle.legal_journals.proofs.Amongs.{and-true, undone}
use Rattle.legal_journals.proofs.Firsts.{fresh, no_more, no_less, one_more, one_less}
use Rattle.legal_journals.proofs.Keys.{report-ties, batch-ties, job-ties}

-- ---- the tests by the keys

abbrev accepts_at : Report → Record → Bool
accepts_at q x = accepts q.0 q.1 x

abbrev continues_at : Report → Record → Bool
continues_at q x = continues_report q.0 q.1 x

abbrev job_at : Job → Record → Bool
job_at q x = continues_job (job_of q) x

abbrev finishes_at : Job → Record → Bool
finishes_at q x = finishes_job (job_of q) x

abbrev closes_at : Batch → Record → Bool
closes_at q x = leader_closes q.0 q.1 x

pub steps_among : (n : List ℕ) (ys xs : List (Tagged Step)) (q : Report) → ys ≡ xs → among (λ (s : Step). true) n ys q ≡ (bytes_eq n q.0 && has_id q.1 xs)
steps_among n ys xs q e = ap (λ zs. among (λ (s : Step). true) n zs q) e ∙ ap (λ (t : Tagged Step → Bool). bytes_eq n q.0 && list_any t xs) (λ i x. and-true (bytes_eq x.id q.1) i)

pub job_tie : (k : Job) (j : JobNo) (q : Job) → job_of k ≡ j → is_eq (job_order k q) ≡ is_same_job j (job_of q)
job_tie k j q e = job-ties k q ∙ ap (λ i. is_same_job i (job_of q)) e

-- a record that no test passes
abbrev pub IsOther : Record → Type 0
IsOther x =
    ((q : Report) → accepts_at q x ≡ false) × ((q : Report) → continues_at q x ≡ false) × ((q : Job) → job_at q x ≡ false) × ((q : Job) → finishes_at q x ≡ false)
    × ((q : Batch) → closes_at q x ≡ false)

module _ (i : LeaderIndex) (records : List Record) (o : Opens) where
  pub accept_more : (r : Told) (new : List (Report × ℕ)) → LeaderIndexes i records → AreOpens o (records ++ Accept r ∷ [])
      → ((q : Report) → at report_order q new ≡ option_or (at report_order q i.accepted) (given report_order q (r.name, r.id) i.opens.count))
      → LeaderIndexes (record { opens = o; accepted = new; continued = i.continued; jobs = i.jobs; finished = i.finished; closed = i.closed }) (records ++ Accept r ∷ [])
  accept_more r new h opens enters = record {
    opens = opens;
    accepted = one_more report_order accepts_at i.accepted new records (Accept r) i.opens.count h.opens.count
        (λ q. enters q ∙ ap (λ b. option_or (at report_order q i.accepted) (cond b (Some i.opens.count) None)) (report-ties (r.name, r.id) q)) h.accepted;
    continued = no_more report_order continues_at i.continued records (Accept r) (λ q. refl) h.continued;
    jobs = no_more job_order job_at i.jobs records (Accept r) (λ q. refl) h.jobs;
    finished = no_more job_order finishes_at i.finished records (Accept r) (λ q. refl) h.finished;
    closed = no_more batch_order closes_at i.closed records (Accept r) (λ q. refl) h.closed;
  }

  pub continue_more : (n : List ℕ) (j : JobNo) (xs ys : List (Tagged Step)) (k : Job) (new : List (Report × ℕ)) (new_jobs : List (Job × ℕ)) → job_of k ≡ j → ys ≡ xs → LeaderIndexes i records → AreOpens o (records ++ Continue n j xs ∷ [])
      → ((q : Report) → at report_order q new ≡ option_or (at report_order q i.continued) (cond (among (λ (s : Step). true) n ys q) (Some i.opens.count) None))
      → ((q : Job) → at job_order q new_jobs ≡ option_or (at job_order q i.jobs) (given job_order q k i.opens.count))
      → LeaderIndexes (record { opens = o; accepted = i.accepted; continued = new; jobs = new_jobs; finished = i.finished; closed = i.closed }) (records ++ Continue n j xs ∷ [])
  continue_more n j xs ys k new new_jobs is same h opens enters job_enters = record {
    opens = opens;
    accepted = no_more report_order accepts_at i.accepted records (Continue n j xs) (λ q. refl) h.accepted;
    continued = one_more report_order continues_at i.continued new records (Continue n j xs) i.opens.count h.opens.count
        (λ q. enters q ∙ ap (λ b. option_or (at report_order q i.continued) (cond b (Some i.opens.count) None)) (steps_among n ys xs q same)) h.continued;
    jobs = one_more job_order job_at i.jobs new_jobs records (Continue n j xs) i.opens.count h.opens.count
        (λ q. job_enters q ∙ ap (λ b. option_or (at job_order q i.jobs) (cond b (Some i.opens.count) None)) (job_tie k j q is)) h.jobs;
    finished = no_more job_order finishes_at i.finished records (Continue n j xs) (λ q. refl) h.finished;
    closed = no_more batch_order closes_at i.closed records (Continue n j xs) (λ q. refl) h.closed;
  }

  pub finish_more : (j : JobNo) (outs : List (Tagged Outcome)) (k : Job) (new : List (Job × ℕ)) → job_of k ≡ j → LeaderIndexes i records → AreOpens o (records ++ Finish j outs ∷ [])
      → ((q : Job) → at job_order q new ≡ option_or (at job_order q i.finished) (given job_order q k i.opens.count))
      → LeaderIndexes (record { opens = o; accepted = i.accepted; continued = i.continued; jobs = i.jobs; finished = new; closed = i.closed }) (records ++ Finish j outs ∷ [])
  finish_more j outs k new is h opens enters = record {
    opens = opens;
    accepted = no_more report_order accepts_at i.accepted records (Finish j outs) (λ q. refl) h.accepted;
    continued = no_more report_order continues_at i.continued records (Finish j outs) (λ q. refl) h.continued;
    jobs = no_more job_order job_at i.jobs records (Finish j outs) (λ q. refl) h.jobs;
    finished = one_more job_order finishes_at i.finished new records (Finish j outs) i.opens.count h.opens.count
        (λ q. enters q ∙ ap (λ b. option_or (at job_order q i.finished) (cond b (Some i.opens.count) None)) (job_tie k j q is)) h.finished;
    closed = no_more batch_order closes_at i.closed records (Finish j outs) (λ q. refl) h.closed;
  }

  pub close_more : (n : List ℕ) (s : ℕ) (c : Closed) (new : List (Batch × ℕ)) → LeaderIndexes i records → AreOpens o (records ++ LeaderClose n s c ∷ [])
      → ((q : Batch) → at batch_order q new ≡ option_or (at batch_order q i.closed) (given batch_order q (n, s) i.opens.count))
      → LeaderIndexes (record { opens = o; accepted = i.accepted; continued = i.continued; jobs = i.jobs; finished = i.finished; closed = new }) (records ++ LeaderClose n s c ∷ [])
  close_more n s c new h opens enters = record {
    opens = opens;
    accepted = no_more report_order accepts_at i.accepted records (LeaderClose n s c) (λ q. refl) h.accepted;
    continued = no_more report_order continues_at i.continued records (LeaderClose n s c) (λ q. refl) h.continued;
    jobs = no_more job_order job_at i.jobs records (LeaderClose n s c) (λ q. refl) h.jobs;
    finished = no_more job_order finishes_at i.finished records (LeaderClose n s c) (λ q. refl) h.finished;
    closed = one_more batch_order closes_at i.closed new records (LeaderClose n s c) i.opens.count h.opens.count
        (λ q. enters q ∙ ap (λ b. option_or (at batch_order q i.closed) (cond b (Some i.opens.count) None)) (batch-ties (n, s) q)) h.closed;
  }

  pub other_more : (x : Record) → IsOther x → LeaderIndexes i records → AreOpens o (records ++ x ∷ [])
      → LeaderIndexes (record { opens = o; accepted = i.accepted; continued = i.continued; jobs = i.jobs; finished = i.finished; closed = i.closed }) (records ++ x ∷ [])
  other_more x other h opens = record {
    opens = opens;
    accepted = no_more report_order accepts_at i.accepted records x other.0 h.accepted;
    continued = no_more report_order continues_at i.continued records x other.1 h.continued;
    jobs = no_more job_order job_at i.jobs records x other.2 h.jobs;
    finished = no_more job_order finishes_at i.finished records x other.3 h.finished;
    closed = no_more batch_order closes_at i.closed records x other.4 h.closed;
  }

-- ---- without the last

pub same_key : (r : Told) (n id : List ℕ) → r.name ≡ n → r.id ≡ id → (let k : Report = (n, id) in k) ≡ (r.name, r.id)
same_key r n id a b = ap (λ (m : List ℕ). let k : Report = (m, id) in k) (sym a) ∙ ap (λ (i : List ℕ). let k : Report = (r.name, i) in k) (sym b)

module _ (i : LeaderIndex) (records : List Record) (o : Opens) (opens : AreOpens o records) where
  pub accept_less : (r : Told) (new : List (Report × ℕ)) → LeaderIndexes i (records ++ Accept r ∷ [])
      → ((q : Report) → at report_order q new ≡ without o.count (is_eq (report_order (r.name, r.id) q)) (at report_order q i.accepted))
      → LeaderIndexes (record { opens = o; accepted = new; continued = i.continued; jobs = i.jobs; finished = i.finished; closed = i.closed }) records
  accept_less r new h leaves = record {
    opens = opens;
    accepted = one_less report_order accepts_at i.accepted new records (Accept r) o.count opens.count
        (λ q. leaves q ∙ ap (λ b. without o.count b (at report_order q i.accepted)) (report-ties (r.name, r.id) q)) h.accepted;
    continued = no_less report_order continues_at i.continued records (Accept r) (λ q. refl) h.continued;
    jobs = no_less job_order job_at i.jobs records (Accept r) (λ q. refl) h.jobs;
    finished = no_less job_order finishes_at i.finished records (Accept r) (λ q. refl) h.finished;
    closed = no_less batch_order closes_at i.closed records (Accept r) (λ q. refl) h.closed;
  }

  pub continue_less : (n : List ℕ) (j : JobNo) (xs ys : List (Tagged Step)) (k : Job) (new : List (Report × ℕ)) (new_jobs : List (Job × ℕ)) → job_of k ≡ j → ys ≡ xs → LeaderIndexes i (records ++ Continue n j xs ∷ [])
      → ((q : Report) → at report_order q new ≡ without o.count (among (λ (s : Step). true) n ys q) (at report_order q i.continued))
      → ((q : Job) → at job_order q new_jobs ≡ without o.count (is_eq (job_order k q)) (at job_order q i.jobs))
      → LeaderIndexes (record { opens = o; accepted = i.accepted; continued = new; jobs = new_jobs; finished = i.finished; closed = i.closed }) records
  continue_less n j xs ys k new new_jobs is same h leaves job_leaves = record {
    opens = opens;
    accepted = no_less report_order accepts_at i.accepted records (Continue n j xs) (λ q. refl) h.accepted;
    continued = one_less report_order continues_at i.continued new records (Continue n j xs) o.count opens.count
        (λ q. leaves q ∙ ap (λ b. without o.count b (at report_order q i.continued)) (steps_among n ys xs q same)) h.continued;
    jobs = one_less job_order job_at i.jobs new_jobs records (Continue n j xs) o.count opens.count
        (λ q. job_leaves q ∙ ap (λ b. without o.count b (at job_order q i.jobs)) (job_tie k j q is)) h.jobs;
    finished = no_less job_order finishes_at i.finished records (Continue n j xs) (λ q. refl) h.finished;
    closed = no_less batch_order closes_at i.closed records (Continue n j xs) (λ q. refl) h.closed;
  }

  pub finish_less : (j : JobNo) (outs : List (Tagged Outcome)) (k : Job) (new : List (Job × ℕ)) → job_of k ≡ j → LeaderIndexes i (records ++ Finish j outs ∷ [])
      → ((q : Job) → at job_order q new ≡ without o.count (is_eq (job_order k q)) (at job_order q i.finished))
      → LeaderIndexes (record { opens = o; accepted = i.accepted; continued = i.continued; jobs = i.jobs; finished = new; closed = i.closed }) records
  finish_less j outs k new is h leaves = record {
    opens = opens;
    accepted = no_less report_order accepts_at i.accepted records (Finish j outs) (λ q. refl) h.accepted;
    continued = no_less report_order continues_at i.continued records (Finish j outs) (λ q. refl) h.continued;
    jobs = no_less job_order job_at i.jobs records (Finish j outs) (λ q. refl) h.jobs;
    finished = one_less job_order finishes_at i.finished new records (Finish j outs) o.count opens.count
        (λ q. leaves q ∙ ap (λ b. without o.count b (at job_order q i.finished)) (job_tie k j q is)) h.finished;
    closed = no_less batch_order closes_at i.closed records (Finish j outs) (λ q. refl) h.closed;
  }

  pub close_less : (n : List ℕ) (s : ℕ) (c : Closed) (new : List (Batch × ℕ)) → LeaderIndexes i (records ++ LeaderClose n s c ∷ [])
      → ((q : Batch) → at batch_order q new ≡ without o.count (is_eq (batch_order (n, s) q)) (at batch_order q i.closed))
      → LeaderIndexes (record { opens = o; accepted = i.accepted; continued = i.continued; jobs = i.jobs; finished = i.finished; closed = new }) records
  close_less n s c new h leaves = record {
    opens = opens;
    accepted = no_less report_order accepts_at i.accepted records (LeaderClose n s c) (λ q. refl) h.accepted;
    continued = no_less report_order continues_at i.continued records (LeaderClose n s c) (λ q. refl) h.continued;
    jobs = no_less job_order job_at i.jobs records (LeaderClose n s c) (λ q. refl) h.jobs;
    finished = no_less job_order finishes_at i.finished records (LeaderClose n s c) (λ q. refl) h.finished;
    closed = one_less batch_order closes_at i.closed new records (LeaderClose n s c) o.count opens.count
        (λ q. leaves q ∙ ap (λ b. without o.count b (at batch_order q i.closed)) (batch-ties (n, s) q)) h.closed;
  }

  pub other_less : (x : Record) → IsOther x → LeaderIndexes i (records ++ x ∷ [])
      → LeaderIndexes (record { opens = o; accepted = i.accepted; continued = i.continued; jobs = i.jobs; finished = i.finished; closed = i.closed }) records
  other_less x other h = record {
    opens = opens;
    accepted = no_less report_order accepts_at i.accepted records x other.0 h.accepted;
    continued = no_less report_order continues_at i.continued records x other.1 h.continued;
    jobs = no_less job_order job_at i.jobs records x other.2 h.jobs;
    finished = no_less job_order finishes_at i.finished records x other.3 h.finished;
    closed = no_less batch_order closes_at i.closed records x other.4 h.closed;
  }

pub at_record : (i : LeaderIndex) (records : List Record) (o : Opens) (x y : Record) → x ≡ y → AreOpens o (records ++ x ∷ []) → (AreOpens o (records ++ y ∷ []) → LeaderIndexes i (records ++ y ∷ [])) → LeaderIndexes i (records ++ x ∷ [])
at_record i records o x y e opens f =
    subst (λ (z : Record). LeaderIndexes i (records ++ z ∷ [])) (sym e) (f (subst (λ (z : Record). AreOpens o (records ++ z ∷ [])) e opens))

pub with_record : (i : LeaderIndex) (records : List Record) (x y : Record) → x ≡ y → LeaderIndexes i (records ++ x ∷ []) → LeaderIndexes i (records ++ y ∷ [])
with_record i records x y e h = subst (λ (z : Record). LeaderIndexes i (records ++ z ∷ [])) e h

pub other_is : (x : Record) → ((r : Told) → x ≡ Accept r → ⊥) → ((n : List ℕ) (j : JobNo) (xs : List (Tagged Step)) → x ≡ Continue n j xs → ⊥)
    → ((j : JobNo) (outs : List (Tagged Outcome)) → x ≡ Finish j outs → ⊥) → ((n : List ℕ) (s : ℕ) (c : Closed) → x ≡ LeaderClose n s c → ⊥) → IsOther x
other_is (Accept r) a b f e = absurd (a r refl)
other_is (Continue n j xs) a b f e = absurd (b n j xs refl)
other_is (Finish j outs) a b f e = absurd (f j outs refl)
other_is (LeaderClose n s c) a b f e = absurd (e n s c refl)
other_is _ a b f e = (λ q. refl, λ q. refl, λ q. refl, λ q. refl, λ q. refl)

-- ---- nothing was entered

pub new_place : (i : LeaderIndex) (records : List Record) → LeaderIndexes i records → (q : Report) → at report_order q i.continued ≢ Some i.opens.count
new_place i records h q e =
    fresh report_order continues_at i.continued records h.continued q (e ∙ ap (λ (n : ℕ). let o : Option ℕ = Some n in o) h.opens.count)

pub same_reports : (i : LeaderIndex) (records : List Record) (new : List (Report × ℕ)) → LeaderIndexes i records → ((q : Report) → at report_order q new ≡ at report_order q i.continued)
    → LeaderIndexes (record { opens = i.opens; accepted = i.accepted; continued = new; jobs = i.jobs; finished = i.finished; closed = i.closed }) records
same_reports i records new h same = record {
  opens = h.opens;
  accepted = h.accepted;
  continued = λ q. same q ∙ h.continued q;
  jobs = h.jobs;
  finished = h.finished;
  closed = h.closed;
}

pub same_jobs : (i : LeaderIndex) (records : List Record) (new : List (Report × ℕ)) (new_jobs : List (Job × ℕ)) → LeaderIndexes i records → ((q : Report) → at report_order q new ≡ at report_order q i.continued)
    → new_jobs ≡ i.jobs → LeaderIndexes (record { opens = i.opens; accepted = i.accepted; continued = new; jobs = new_jobs; finished = i.finished; closed = i.closed }) records
same_jobs i records new new_jobs h same e =
    let s = same_reports i records new h same in record {
      opens = h.opens;
      accepted = h.accepted;
      continued = s.continued;
      jobs = subst (λ (es : List (Job × ℕ)). HasPlaces job_order job_at es records) (sym e) h.jobs;
      finished = h.finished;
      closed = h.closed;
    }

-- reports that were entered are taken out
pub out_again : (i : LeaderIndex) (records : List Record) (n : List ℕ) (xs ys : List (Tagged Step)) (mid new : List (Report × ℕ)) → ys ≡ xs → LeaderIndexes i records
    → ((q : Report) → at report_order q mid ≡ option_or (at report_order q i.continued) (cond (among (λ (s : Step). true) n xs q) (Some i.opens.count) None))
    → ((q : Report) → at report_order q new ≡ without i.opens.count (among (λ (s : Step). true) n ys q) (at report_order q mid))
    → (q : Report) → at report_order q new ≡ at report_order q i.continued
out_again i records n xs ys mid new e h enters leaves q =
    let all = among (λ (s : Step). true) n xs q in
    leaves q ∙ ap (λ zs. without i.opens.count (among (λ (s : Step). true) n zs q) (at report_order q mid)) e
    ∙ ap (without i.opens.count all) (enters q) ∙ undone (at report_order q i.continued) i.opens.count all all (λ e. e) (new_place i records h q)
