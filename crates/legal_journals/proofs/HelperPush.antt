-- Lemmas: the index of a helper lane's records, with one more and without it.
use Rattle.std.proofs.Common.{◌≡◌, ◌≢◌, ℕ, suc, ◌<◌, ◌==◌, arith, Bool, true, false, cond, List, [], ◌∷◌, ◌++◌, length, reverse, Option, Some, None, refl, sym, ap, subst, ◌∙◌}
use Rattle.std.proofs.lemmas.List.{reverse-append, reverse-reverse, length-reverse}
use Rattle.std.proofs.lemmas.Bool.{eq-eqb, eqb-true, false_from_ne_true}
use Rattle.std.specs.Option.{option_or, option_map}
use Rattle.std.specs.Ordering.{is_eq}
use Rattle.dap_messages.specs.declared.job.JobNo.{JobNo}
use Rattle.dap_messages.specs.declared.body.Half.{Half}
use Rattle.dap_messages.specs.declared.item.Tagged.{Tagged}
use Rattle.lane_records.specs.declared.outcome.Outcome.{Outcome}
use Rattle.lane_records.specs.declared.closed.Closed.{Closed}
use Rattle.lane_records.specs.declared.record.Record.{Record}
use Rattle.lane_records.specs.declared.record.Record.TheVariants.{Start, Commit, HelperClose}
use Rattle.legal_journals.specs.History.{first}
use Rattle.dap_messages.specs.Jobs.{is_same_job}
use Rattle.legal_journals.specs.LaneTests.{starts_job, commits_job, helper_closes}
use Rattle.dap_messages.specs.JobLaws.{same_job-Decides}
use Rattle.legal_journals.specs.declared.opens.Opens.{Opens}
use Rattle.legal_journals.specs.declared.helper_index.HelperIndex.{HelperIndex}
use Rattle.legal_journals.specs.Finished.{name_under, names_report, finishes_now, finished_first, finished_place}
use Rattle.legal_journals.specs.HelperIndexed.{HelperIndexes}
use Rattle.legal_journals.specs.Places.{AreOpens, HasPlaces, place_of}
use Rattle.legal_journals.specs.Reports.{Report, Batch, Job, job_of, report_order, batch_order, job_order}
use Rattle.legal_journals.specs.Tables.{at, given, but, is_place, without}
use Rattle.legal_journals.proofs.Amongs.{undone}
use Rattle.legal_journals.proofs.Counts.{first-push}
use Rattle.legal_journals.proofs.Firsts.{fresh, no_more, no_less, one_more, one_less, place_of-push, place_of-within}
use Rattle.legal_journals.proofs.Keys.{batch-ties}
use Rattle.legal_journals.proofs.LeaderPush.{job_tie}

abbrev starts_at : Job → Record → Bool
starts_at q x = starts_job (job_of q) x

abbrev commits_at : Job → Record → Bool
commits_at q x = commits_job (job_of q) x

abbrev closes_at : Batch → Record → Bool
closes_at q x = helper_closes q.0 q.1 x

or_none : {A : Type 0} (o : Option A) → option_or o None ≡ o
or_none None = refl
or_none (Some a) = refl

-- ---- finished reports

abbrev FinishedAt : List (Report × ℕ) → List Record → Type 0
FinishedAt entries records = (q : Report) → at report_order q entries ≡ finished_place q records

pub finished-push : (q : Report) (records : List Record) (x : Record)
    → finished_place q (records ++ x ∷ []) ≡ option_or (finished_place q records) (cond (finishes_now q x records) (Some (length records)) None)
finished-push q records x =
    ap (finished_first q) (reverse-append records (x ∷ []))
    ∙ ap (λ before. option_or (finished_place q records) (cond (finishes_now q x before) (Some (length (reverse records))) None)) (reverse-reverse records)
    ∙ ap (λ n. option_or (finished_place q records) (cond (finishes_now q x records) (Some n) None)) (length-reverse records)

pub finished-within : (q : Report) (l : List Record) (n : ℕ) → finished_first q l ≡ Some n → n < length l
finished-within q [] n e = absurd cc
finished-within q (x ∷ old) n e = by_old (finished_first q old) (finished-within q old) (finishes_now q x (reverse old)) e where
  by_old : (o : Option ℕ) → ((m : ℕ) → o ≡ Some m → m < length old) → (b : Bool) → option_or o (cond b (Some (length old)) None) ≡ Some n → n < suc (length old)
  by_old None rest true e = let same : length old ≡ n = cc in omega arith
  by_old None rest false e = absurd cc
  by_old (Some m) rest b e = let lt = rest m refl in let same : m ≡ n = cc in omega arith

finished_same : (entries : List (Report × ℕ)) (records : List Record) (x : Record) → ((q : Report) → finishes_now q x records ≡ false) → FinishedAt entries records → FinishedAt entries (records ++ x ∷ [])
finished_same entries records x none h q =
    h q ∙ sym (finished-push q records x ∙ ap (λ b. option_or (finished_place q records) (cond b (Some (length records)) None)) (none q) ∙ or_none (finished_place q records))

finished_back : (entries : List (Report × ℕ)) (records : List Record) (x : Record) → ((q : Report) → finishes_now q x records ≡ false) → FinishedAt entries (records ++ x ∷ []) → FinishedAt entries records
finished_back entries records x none h q =
    h q ∙ finished-push q records x ∙ ap (λ b. option_or (finished_place q records) (cond b (Some (length records)) None)) (none q) ∙ or_none (finished_place q records)

-- where a key had a new place
out_of : (o : Option ℕ) (place : ℕ) (b : Bool) → o ≢ Some place → without place b (option_or o (cond b (Some place) None)) ≡ o
out_of o place b new = undone o place b b (λ e. e) new

-- ---- names of jobs

abbrev NamesAt : List (Job × List ℕ) → List Record → Type 0
NamesAt entries records = (q : Job) → at job_order q entries ≡ first (name_under (job_of q)) records

names_same : (entries : List (Job × List ℕ)) (records : List Record) (x : Record) → ((q : Job) → name_under (job_of q) x ≡ None) → NamesAt entries records → NamesAt entries (records ++ x ∷ [])
names_same entries records x none h q =
    h q ∙ sym (first-push (name_under (job_of q)) records x ∙ ap (option_or (first (name_under (job_of q)) records)) (none q) ∙ or_none (first (name_under (job_of q)) records))

names_back : (entries : List (Job × List ℕ)) (records : List Record) (x : Record) → ((q : Job) → name_under (job_of q) x ≡ None) → NamesAt entries (records ++ x ∷ []) → NamesAt entries records
names_back entries records x none h q =
    h q ∙ first-push (name_under (job_of q)) records x ∙ ap (option_or (first (name_under (job_of q)) records)) (none q) ∙ or_none (first (name_under (job_of q)) records)

-- a job has a place where it has a name
no_place : (j : JobNo) (records : List Record) → place_of (starts_job j) records ≡ None → first (name_under j) records ≡ None
no_place j [] e = refl
no_place j (x ∷ records) e = by_case x e (no_place j records) where
  rest_none : (o : Option ℕ) → option_map suc o ≡ None → o ≡ None
  rest_none None e = refl
  rest_none (Some n) e = absurd cc

  by_test : (b : Bool) (n : List ℕ) → cond b (Some 0) (option_map suc (place_of (starts_job j) records)) ≡ None → (place_of (starts_job j) records ≡ None → first (name_under j) records ≡ None)
      → option_or (cond b (Some n) None) (first (name_under j) records) ≡ None
  by_test true n e rest = absurd cc
  by_test false n e rest = rest (rest_none (place_of (starts_job j) records) e)

  by_case : (x : Record) → place_of (starts_job j) (x ∷ records) ≡ None → (place_of (starts_job j) records ≡ None → first (name_under j) records ≡ None) → first (name_under j) (x ∷ records) ≡ None
  by_case (Start k n hs) e rest = by_test (is_same_job k j) n e rest
  by_case _ e rest = rest (rest_none (place_of (starts_job j) records) e)

no_name : (j : JobNo) (records : List Record) → first (name_under j) records ≡ None → place_of (starts_job j) records ≡ None
no_name j [] e = refl
no_name j (x ∷ records) e = by_case x e (no_name j records) where
  by_test : (b : Bool) (n : List ℕ) → option_or (cond b (Some n) None) (first (name_under j) records) ≡ None → (first (name_under j) records ≡ None → place_of (starts_job j) records ≡ None)
      → cond b (Some 0) (option_map suc (place_of (starts_job j) records)) ≡ None
  by_test true n e rest = absurd cc
  by_test false n e rest = ap (option_map suc) (rest e)

  by_case : (x : Record) → first (name_under j) (x ∷ records) ≡ None → (first (name_under j) records ≡ None → place_of (starts_job j) records ≡ None) → place_of (starts_job j) (x ∷ records) ≡ None
  by_case (Start k n hs) e rest = by_test (is_same_job k j) n e rest
  by_case _ e rest = ap (option_map suc) (rest e)

some_name : (j : JobNo) (records : List Record) (p : ℕ) (more : Option (List ℕ)) → place_of (starts_job j) records ≡ Some p → option_or (first (name_under j) records) more ≡ first (name_under j) records
some_name j records p more e = by_name (first (name_under j) records) refl where
  by_name : (o : Option (List ℕ)) → first (name_under j) records ≡ o → option_or o more ≡ o
  by_name None is = let none = no_name j records is in absurd cc
  by_name (Some m) is = refl

-- the names without the last Start
names_out : (started : List (Job × ℕ)) (names new : List (Job × List ℕ)) (records : List Record) (j : JobNo) (n : List ℕ) (hs : List (Tagged Half)) (k : Job) (place : ℕ)
    → job_of k ≡ j → place ≡ length records → HasPlaces job_order starts_at started (records ++ Start j n hs ∷ []) → NamesAt names (records ++ Start j n hs ∷ [])
    → ((q : Job) → at job_order q new ≡ cond (is_place place (at job_order k started)) (but job_order q k (at job_order q names)) (at job_order q names)) → NamesAt new records
names_out started names new records j n hs k place is last places h leaves q =
    leaves q
    ∙ ap (λ b. cond b (but job_order q k (at job_order q names)) (at job_order q names)) (ap (is_place place) had)
    ∙ ap (λ o. cond (is_place place (option_or (place_of (starts_job j) records) (Some (length records)))) (cond (is_eq (job_order k q)) None o) o)
    (h q ∙ first-push (name_under (job_of q)) records (Start j n hs))
    ∙ by_place (place_of (starts_job j) records) refl (is_eq (job_order k q)) (job_tie k j q is) (is_same_job j (job_of q)) refl
  where
    self_same : is_same_job j j ≡ true
    self_same = (same_job-Decides j j).1 refl

    had : at job_order k started ≡ option_or (place_of (starts_job j) records) (Some (length records))
    had =
        places k ∙ place_of-push (starts_at k) records (Start j n hs)
        ∙ ap (λ i. option_or (place_of (starts_job i) records) (cond (is_same_job j i) (Some (length records)) None)) is
        ∙ ap (λ b. option_or (place_of (starts_job j) records) (cond b (Some (length records)) None)) self_same

    by_place : (o : Option ℕ) → place_of (starts_job j) records ≡ o → (b : Bool) → b ≡ is_same_job j (job_of q) → (c : Bool) → is_same_job j (job_of q) ≡ c
        → cond (is_place place (option_or o (Some (length records)))) (cond b None (option_or (first (name_under (job_of q)) records) (cond (is_same_job j (job_of q)) (Some n) None)))
        (option_or (first (name_under (job_of q)) records) (cond (is_same_job j (job_of q)) (Some n) None))
        ≡ first (name_under (job_of q)) records
    by_place None e b tie true same =
        ap (λ t. cond t (cond b None (option_or (first (name_under (job_of q)) records) (cond (is_same_job j (job_of q)) (Some n) None)))
        (option_or (first (name_under (job_of q)) records) (cond (is_same_job j (job_of q)) (Some n) None))) (eq-eqb (length records) place (sym last))
        ∙ ap (λ t. cond t None (option_or (first (name_under (job_of q)) records) (cond (is_same_job j (job_of q)) (Some n) None))) (tie ∙ same)
        ∙ sym (no_place (job_of q) records (ap (λ i. place_of (starts_job i) records) (sym ((same_job-Decides j (job_of q)).0 same)) ∙ e))
    by_place None e b tie false same =
        ap (λ t. cond t (cond b None (option_or (first (name_under (job_of q)) records) (cond (is_same_job j (job_of q)) (Some n) None)))
        (option_or (first (name_under (job_of q)) records) (cond (is_same_job j (job_of q)) (Some n) None))) (eq-eqb (length records) place (sym last))
        ∙ ap (λ t. cond t None (option_or (first (name_under (job_of q)) records) (cond (is_same_job j (job_of q)) (Some n) None))) (tie ∙ same)
        ∙ ap (λ t. option_or (first (name_under (job_of q)) records) (cond t (Some n) None)) same ∙ or_none (first (name_under (job_of q)) records)
    by_place (Some p) e b tie c same =
        ap (λ t. cond t (cond b None (option_or (first (name_under (job_of q)) records) (cond (is_same_job j (job_of q)) (Some n) None)))
        (option_or (first (name_under (job_of q)) records) (cond (is_same_job j (job_of q)) (Some n) None)))
        (false_from_ne_true (p == place) (λ t. let lt = place_of-within (starts_job j) records p e in let at_last = eqb-true p place t in absurd (omega arith)))
        ∙ by_same c same
      where
        by_same : (c : Bool) → is_same_job j (job_of q) ≡ c → option_or (first (name_under (job_of q)) records) (cond (is_same_job j (job_of q)) (Some n) None) ≡ first (name_under (job_of q)) records
        by_same true same =
            some_name (job_of q) records p (cond (is_same_job j (job_of q)) (Some n) None) (ap (λ i. place_of (starts_job i) records) (sym ((same_job-Decides j (job_of q)).0 same)) ∙ e)
        by_same false same = ap (λ t. option_or (first (name_under (job_of q)) records) (cond t (Some n) None)) same ∙ or_none (first (name_under (job_of q)) records)

-- ---- one more

abbrev pub IsOther : Record → Type 0
IsOther x =
    ((q : Job) → starts_at q x ≡ false) × ((q : Job) → name_under (job_of q) x ≡ None) × ((q : Job) → commits_at q x ≡ false) × ((q : Report) (before : List Record) → finishes_now q x before ≡ false)
    × ((q : Batch) → closes_at q x ≡ false)

pub other_is : (x : Record) → ((j : JobNo) (n : List ℕ) (hs : List (Tagged Half)) → x ≡ Start j n hs → ⊥) → ((j : JobNo) (outs : List (Tagged Outcome)) → x ≡ Commit j outs → ⊥)
    → ((n : List ℕ) (s : ℕ) (c : Closed) → x ≡ HelperClose n s c → ⊥) → IsOther x
other_is (Start j n hs) a b e = absurd (a j n hs refl)
other_is (Commit j outs) a b e = absurd (b j outs refl)
other_is (HelperClose n s c) a b e = absurd (e n s c refl)
other_is _ a b e = (λ q. refl, λ q. refl, λ q. refl, λ q before. refl, λ q. refl)

module _ (i : HelperIndex) (records : List Record) (o : Opens) where
  pub start_more : (j : JobNo) (n : List ℕ) (hs : List (Tagged Half)) (k : Job) (new : List (Job × ℕ)) (new_names : List (Job × List ℕ)) → job_of k ≡ j → HelperIndexes i records → AreOpens o (records ++ Start j n hs ∷ [])
      → ((q : Job) → at job_order q new ≡ option_or (at job_order q i.started) (given job_order q k i.opens.count))
      → ((q : Job) → at job_order q new_names ≡ option_or (at job_order q i.names) (given job_order q k n))
      → HelperIndexes (record { opens = o; started = new; names = new_names; committed = i.committed; finished = i.finished; closed = i.closed }) (records ++ Start j n hs ∷ [])
  start_more j n hs k new new_names is h opens enters name_enters = record {
    opens = opens;
    started = one_more job_order starts_at i.started new records (Start j n hs) i.opens.count h.opens.count
        (λ q. enters q ∙ ap (λ b. option_or (at job_order q i.started) (cond b (Some i.opens.count) None)) (job_tie k j q is)) h.started;
    names = λ q. name_enters q ∙ ap (λ b. option_or (at job_order q i.names) (cond b (Some n) None)) (job_tie k j q is)
        ∙ ap (λ had. option_or had (cond (is_same_job j (job_of q)) (Some n) None)) (h.names q) ∙ sym (first-push (name_under (job_of q)) records (Start j n hs));
    committed = no_more job_order commits_at i.committed records (Start j n hs) (λ q. refl) h.committed;
    finished = finished_same i.finished records (Start j n hs) (λ q. refl) h.finished;
    closed = no_more batch_order closes_at i.closed records (Start j n hs) (λ q. refl) h.closed;
  }

  pub commit_more : (j : JobNo) (outs ys : List (Tagged Outcome)) (k : Job) (name : Option (List ℕ)) (new : List (Report × ℕ)) (new_jobs : List (Job × ℕ)) → job_of k ≡ j → ys ≡ outs → name ≡ at job_order k i.names
      → HelperIndexes i records → AreOpens o (records ++ Commit j outs ∷ [])
      → ((q : Report) → at report_order q new ≡ option_or (at report_order q i.finished) (cond (names_report name ys q) (Some i.opens.count) None))
      → ((q : Job) → at job_order q new_jobs ≡ option_or (at job_order q i.committed) (given job_order q k i.opens.count))
      → HelperIndexes (record { opens = o; started = i.started; names = i.names; committed = new_jobs; finished = new; closed = i.closed }) (records ++ Commit j outs ∷ [])
  commit_more j outs ys k name new new_jobs is same named h opens enters job_enters = record {
    opens = opens;
    started = no_more job_order starts_at i.started records (Commit j outs) (λ q. refl) h.started;
    names = names_same i.names records (Commit j outs) (λ q. refl) h.names;
    committed = one_more job_order commits_at i.committed new_jobs records (Commit j outs) i.opens.count h.opens.count
        (λ q. job_enters q ∙ ap (λ b. option_or (at job_order q i.committed) (cond b (Some i.opens.count) None)) (job_tie k j q is)) h.committed;
    finished = λ q. enters q ∙ ap (λ zs. option_or (at report_order q i.finished) (cond (names_report name zs q) (Some i.opens.count) None)) same
        ∙ ap (λ m. option_or (at report_order q i.finished) (cond (names_report m outs q) (Some i.opens.count) None)) (named ∙ h.names k ∙ ap (λ m. first (name_under m) records) is)
        ∙ ap (λ had. option_or had (cond (finishes_now q (Commit j outs) records) (Some i.opens.count) None)) (h.finished q)
        ∙ ap (λ m. option_or (finished_place q records) (cond (finishes_now q (Commit j outs) records) (Some m) None)) h.opens.count
        ∙ sym (finished-push q records (Commit j outs));
    closed = no_more batch_order closes_at i.closed records (Commit j outs) (λ q. refl) h.closed;
  }

  pub close_more : (n : List ℕ) (s : ℕ) (c : Closed) (new : List (Batch × ℕ)) → HelperIndexes i records → AreOpens o (records ++ HelperClose n s c ∷ [])
      → ((q : Batch) → at batch_order q new ≡ option_or (at batch_order q i.closed) (given batch_order q (n, s) i.opens.count))
      → HelperIndexes (record { opens = o; started = i.started; names = i.names; committed = i.committed; finished = i.finished; closed = new }) (records ++ HelperClose n s c ∷ [])
  close_more n s c new h opens enters = record {
    opens = opens;
    started = no_more job_order starts_at i.started records (HelperClose n s c) (λ q. refl) h.started;
    names = names_same i.names records (HelperClose n s c) (λ q. refl) h.names;
    committed = no_more job_order commits_at i.committed records (HelperClose n s c) (λ q. refl) h.committed;
    finished = finished_same i.finished records (HelperClose n s c) (λ q. refl) h.finished;
    closed = one_more batch_order closes_at i.closed new records (HelperClose n s c) i.opens.count h.opens.count
        (λ q. enters q ∙ ap (λ b. option_or (at batch_order q i.closed) (cond b (Some i.opens.count) None)) (batch-ties (n, s) q)) h.closed;
  }

  pub other_more : (x : Record) → IsOther x → HelperIndexes i records → AreOpens o (records ++ x ∷ [])
      → HelperIndexes (record { opens = o; started = i.started; names = i.names; committed = i.committed; finished = i.finished; closed = i.closed }) (records ++ x ∷ [])
  other_more x other h opens = record {
    opens = opens;
    started = no_more job_order starts_at i.started records x other.0 h.started;
    names = names_same i.names records x other.1 h.names;
    committed = no_more job_order commits_at i.committed records x other.2 h.committed;
    finished = finished_same i.finished records x (λ q. other.3 q records) h.finished;
    closed = no_more batch_order closes_at i.closed records x other.4 h.closed;
  }

-- ---- without the last

finished_out : (entries new : List (Report × ℕ)) (records : List Record) (x : Record) (place : ℕ) → place ≡ length records → FinishedAt entries (records ++ x ∷ [])
    → ((q : Report) → at report_order q new ≡ without place (finishes_now q x records) (at report_order q entries)) → FinishedAt new records
finished_out entries new records x place last h leaves q =
    leaves q
    ∙ ap (without place (finishes_now q x records))
    (h q ∙ finished-push q records x ∙ ap (λ n. option_or (finished_place q records) (cond (finishes_now q x records) (Some n) None)) (sym last))
    ∙ out_of (finished_place q records) place (finishes_now q x records)
    (λ e. let lt = finished-within q (reverse records) place e in let len = length-reverse records in absurd (omega arith))

module _ (i : HelperIndex) (records : List Record) (o : Opens) (opens : AreOpens o records) where
  pub start_less : (j : JobNo) (n : List ℕ) (hs : List (Tagged Half)) (k : Job) (new : List (Job × ℕ)) (new_names : List (Job × List ℕ)) → job_of k ≡ j → HelperIndexes i (records ++ Start j n hs ∷ [])
      → ((q : Job) → at job_order q new ≡ without o.count (is_eq (job_order k q)) (at job_order q i.started))
      → ((q : Job) → at job_order q new_names ≡ cond (is_place o.count (at job_order k i.started)) (but job_order q k (at job_order q i.names)) (at job_order q i.names))
      → HelperIndexes (record { opens = o; started = new; names = new_names; committed = i.committed; finished = i.finished; closed = i.closed }) records
  start_less j n hs k new new_names is h leaves name_leaves = record {
    opens = opens;
    started = one_less job_order starts_at i.started new records (Start j n hs) o.count opens.count
        (λ q. leaves q ∙ ap (λ b. without o.count b (at job_order q i.started)) (job_tie k j q is)) h.started;
    names = names_out i.started i.names new_names records j n hs k o.count is opens.count h.started h.names name_leaves;
    committed = no_less job_order commits_at i.committed records (Start j n hs) (λ q. refl) h.committed;
    finished = finished_back i.finished records (Start j n hs) (λ q. refl) h.finished;
    closed = no_less batch_order closes_at i.closed records (Start j n hs) (λ q. refl) h.closed;
  }

  pub commit_less : (j : JobNo) (outs ys : List (Tagged Outcome)) (k : Job) (name : Option (List ℕ)) (new : List (Report × ℕ)) (new_jobs : List (Job × ℕ)) → job_of k ≡ j → ys ≡ outs → name ≡ at job_order k i.names
      → HelperIndexes i (records ++ Commit j outs ∷ [])
      → ((q : Report) → at report_order q new ≡ without o.count (names_report name ys q) (at report_order q i.finished))
      → ((q : Job) → at job_order q new_jobs ≡ without o.count (is_eq (job_order k q)) (at job_order q i.committed))
      → HelperIndexes (record { opens = o; started = i.started; names = i.names; committed = new_jobs; finished = new; closed = i.closed }) records
  commit_less j outs ys k name new new_jobs is same named h leaves job_leaves =
      let names = names_back i.names records (Commit j outs) (λ q. refl) h.names in record {
        opens = opens;
        started = no_less job_order starts_at i.started records (Commit j outs) (λ q. refl) h.started;
        names = names;
        committed = one_less job_order commits_at i.committed new_jobs records (Commit j outs) o.count opens.count
            (λ q. job_leaves q ∙ ap (λ b. without o.count b (at job_order q i.committed)) (job_tie k j q is)) h.committed;
        finished = finished_out i.finished new records (Commit j outs) o.count opens.count h.finished
            (λ q. leaves q ∙ ap (λ zs. without o.count (names_report name zs q) (at report_order q i.finished)) same
            ∙ ap (λ m. without o.count (names_report m outs q) (at report_order q i.finished)) (named ∙ names k ∙ ap (λ m. first (name_under m) records) is));
        closed = no_less batch_order closes_at i.closed records (Commit j outs) (λ q. refl) h.closed;
      }

  pub close_less : (n : List ℕ) (s : ℕ) (c : Closed) (new : List (Batch × ℕ)) → HelperIndexes i (records ++ HelperClose n s c ∷ [])
      → ((q : Batch) → at batch_order q new ≡ without o.count (is_eq (batch_order (n, s) q)) (at batch_order q i.closed))
      → HelperIndexes (record { opens = o; started = i.started; names = i.names; committed = i.committed; finished = i.finished; closed = new }) records
  close_less n s c new h leaves = record {
    opens = opens;
    started = no_less job_order starts_at i.started records (HelperClose n s c) (λ q. refl) h.started;
    names = names_back i.names records (HelperClose n s c) (λ q. refl) h.names;
    committed = no_less job_order commits_at i.committed records (HelperClose n s c) (λ q. refl) h.committed;
    finished = finished_back i.finished records (HelperClose n s c) (λ q. refl) h.finished;
    closed = one_less batch_order closes_at i.closed new records (HelperClose n s c) o.count opens.count
        (λ q. leaves q ∙ ap (λ b. without o.count b (at batch_order q i.closed)) (batch-ties (n, s) q)) h.closed;
  }

  pub other_less : (x : Record) → IsOther x → HelperIndexes i (records ++ x ∷ [])
      → HelperIndexes (record { opens = o; started = i.started; names = i.names; committed = i.committed; finished = i.finished; closed = i.closed }) records
  other_less x other h = record {
    opens = opens;
    started = no_less job_order starts_at i.started records x other.0 h.started;
    names = names_back i.names records x other.1 h.names;
    committed = no_less job_order commits_at i.committed records x other.2 h.committed;
    finished = finished_back i.finished records x (λ q. other.3 q records) h.finished;
    closed = no_less batch_order closes_at i.closed records x other.4 h.closed;
  }

-- ---- nothing was entered

pub new_finished : (i : HelperIndex) (records : List Record) → HelperIndexes i records → (q : Report) → at report_order q i.finished ≢ Some i.opens.count
new_finished i records h q e =
    let lt = finished-within q (reverse records) i.opens.count (sym (h.finished q) ∙ e) in
    let len = length-reverse records in
    let count = h.opens.count in
    absurd (omega arith)

pub new_start : (i : HelperIndex) (records : List Record) → HelperIndexes i records → (q : Job) → at job_order q i.started ≢ Some i.opens.count
new_start i records h q e =
    fresh job_order starts_at i.started records h.started q (e ∙ ap (λ (n : ℕ). let o : Option ℕ = Some n in o) h.opens.count)

-- tables that have the same at each key
pub same_tables : (i : HelperIndex) (records : List Record) (started committed : List (Job × ℕ)) (names : List (Job × List ℕ)) (finished : List (Report × ℕ)) → HelperIndexes i records
    → ((q : Job) → at job_order q started ≡ at job_order q i.started) → names ≡ i.names → committed ≡ i.committed → ((q : Report) → at report_order q finished ≡ at report_order q i.finished)
    → HelperIndexes (record { opens = i.opens; started = started; names = names; committed = committed; finished = finished; closed = i.closed }) records
same_tables i records started committed names finished h same same_names same_jobs same_reports = record {
  opens = h.opens;
  started = λ q. same q ∙ h.started q;
  names = λ q. ap (at job_order q) same_names ∙ h.names q;
  committed = λ q. ap (at job_order q) same_jobs ∙ h.committed q;
  finished = λ q. same_reports q ∙ h.finished q;
  closed = h.closed;
}

-- reports that were entered are taken out
pub out_again : (i : HelperIndex) (records : List Record) (name : Option (List ℕ)) (outs ys : List (Tagged Outcome)) (mid new : List (Report × ℕ)) → ys ≡ outs → HelperIndexes i records
    → ((q : Report) → at report_order q mid ≡ option_or (at report_order q i.finished) (cond (names_report name outs q) (Some i.opens.count) None))
    → ((q : Report) → at report_order q new ≡ without i.opens.count (names_report name ys q) (at report_order q mid))
    → (q : Report) → at report_order q new ≡ at report_order q i.finished
out_again i records name outs ys mid new e h enters leaves q =
    let all = names_report name outs q in
    leaves q ∙ ap (λ zs. without i.opens.count (names_report name zs q) (at report_order q mid)) e
    ∙ ap (without i.opens.count all) (enters q) ∙ undone (at report_order q i.finished) i.opens.count all all (λ e. e) (new_finished i records h q)

pub at_record : (i : HelperIndex) (records : List Record) (o : Opens) (x y : Record) → x ≡ y → AreOpens o (records ++ x ∷ []) → (AreOpens o (records ++ y ∷ []) → HelperIndexes i (records ++ y ∷ [])) → HelperIndexes i (records ++ x ∷ [])
at_record i records o x y e opens f =
    subst (λ (z : Record). HelperIndexes i (records ++ z ∷ [])) (sym e) (f (subst (λ (z : Record). AreOpens o (records ++ z ∷ [])) e opens))

pub with_record : (i : HelperIndex) (records : List Record) (x y : Record) → x ≡ y → HelperIndexes i (records ++ x ∷ []) → HelperIndexes i (records ++ y ∷ [])
with_record i records x y e h = subst (λ (z : Record). HelperIndexes i (records ++ z ∷ [])) e h
