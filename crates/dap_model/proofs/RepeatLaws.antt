-- A batch that was collected stays as it is.
use Rattle.std.proofs.Common.{◌≡◌, ◌⊎◌, ℕ, ◌+◌, List, [], ◌∷◌, ◌++◌, length, nat_eq, is_none, is_some, Bool, cond, true, false, ◌&&◌, Option, Some, None, Result, Ok, Err, refl, sym, ap, subst, ◌∙◌, inl, inr}
use Rattle.std.proofs.lemmas.Bool.{and_from, and_left, and_right, both_ways, false_from_ne_true, or_left}
use Rattle.std.proofs.lemmas.List.Folds.{list_any-append}
use Rattle.std.proofs.lemmas.Slice.Eq.{bytes_eq-Decides}
use Rattle.std.specs.List.{find, All, Contains, list_any}
use Rattle.std.specs.Option.{option_map, option_map_or, option_to_list}
use Rattle.std.specs.Result.{result_ok}
use Rattle.std.specs.Str.{bytes_eq}
use Rattle.vdaf_api.specs.Functions.{Functions, Parts}
use Rattle.vdaf_api.specs.Totals.{total_numbers}
use Rattle.vdaf_api.specs.declared.answer.Collected.{Collected as Counts}
use Rattle.vdaf_api.specs.declared.kind.Kind.{Kind}
use Rattle.dap_batch.specs.Group.{batch_start}
use Rattle.dap_messages.specs.Grammar.{whole}
use Rattle.dap_messages.specs.Messages.{report}
use Rattle.dap_messages.specs.Reports.{known_in}
use Rattle.dap_messages.specs.declared.report.Report.{Report}
use Rattle.dap_seal.specs.Reports.{report_of}
use Rattle.dap_tasks.specs.Judged.{is_early, is_known_as, is_expired}
use Rattle.dap_tasks.specs.Task.{PlainTask, has_name}
use Rattle.dap_tasks.specs.declared.cause.Cause.TheVariants as cause
use Rattle.dap_tasks.specs.declared.cause.Judged.{Judged}
use Rattle.dap_tasks.specs.declared.cause.Judged.TheVariants.{Again, Barred, Added}
use Rattle.dap_script.specs.declared.line.Line.{Line}
use Rattle.dap_script.specs.declared.line.Line.TheVariants as line
use Rattle.dap_model.proofs.ChangeLaws.{changes_named}
use Rattle.dap_model.proofs.ChangeLaws.{found_name}
use Rattle.dap_model.proofs.NameLemmas.{name_in-report}
use Rattle.dap_model.specs.Changes.{AddsBatch}
use Rattle.dap_model.specs.Run.{state_after}
use Rattle.dap_model.specs.State.{Batch, State, content_of, contents_in, is_batch, is_collected, rejected_in, batch_contents, batch_rejected, earliest, has_bucket, in_bucket, is_closed, sharing, with_collected}
use Rattle.dap_model.specs.Step.{Outcome, after_judgement, collect_of, collection_of, measure_of, name_in, offered, refused, step, upload_named, upload_to, judgement, reports_with_content}
use Rattle.dap_model.specs.declared.printed.Printed.{Printed}
use Rattle.dap_model.specs.declared.printed.Printed.TheVariants.{Collected}
use Rattle.std.proofs.lemmas.List.Elements.{All-weaker, Contains-push}
use Rattle.dap_model.proofs.TestLemmas.{added_by_tests}
use Rattle.dap_bytes.specs.Spans.{buckets_of, holds_bucket, passes_start}
use Rattle.dap_model.proofs.OfferLaws.{collected_in, collected_is}
use Rattle.dap_model.specs.BatchLaws.{flat_map-agree, none_pass}
use Rattle.std.specs.Prelude.{nat_le}
use Rattle.dap_model.proofs.ListLemmas.{any_from, sum_by-agree}
use Rattle.dap_model.proofs.CollectLaws.{tests}
use Rattle.dap_bytes.specs.declared.span.Span.{Span}

-- the accepted reports with one more, which lies in none of the buckets
module _ (f : Kind → Functions) (task : PlainTask) where
  contents-push : (start : ℕ) (reports : List Report) (r : Report) → in_bucket task start r ≡ false → contents_in f task start (reports ++ r ∷ []) ≡ contents_in f task start reports
  contents-push start [] r e = ap (λ b. cond b (option_to_list (content_of f task r)) [] ++ []) e
  contents-push start (first ∷ more) r e = ap (λ c. cond (in_bucket task start first) (option_to_list (content_of f task first)) [] ++ c) (contents-push start more r e)

  rejected-push : (start : ℕ) (reports : List Report) (r : Report) → in_bucket task start r ≡ false → rejected_in f task start (reports ++ r ∷ []) ≡ rejected_in f task start reports
  rejected-push start [] r e = ap (λ b. cond (b && is_none (content_of f task r)) 1 0 + 0) e
  rejected-push start (first ∷ more) r e = ap (λ (n : ℕ). cond (in_bucket task start first && is_none (content_of f task first)) 1 0 + n) (rejected-push start more r e)

module _ (f : Kind → Functions) (task : PlainTask) (span : Span) where
  abbrev IsOutside : Report → Type 0
  IsOutside r = All (λ start. in_bucket task start r ≡ false) (buckets_of span task.precision)

  batch_contents-push : (reports : List Report) (r : Report) → IsOutside r → batch_contents f task span (reports ++ r ∷ []) ≡ batch_contents f task span reports
  batch_contents-push reports r out =
      flat_map-agree (λ start. contents_in f task start (reports ++ r ∷ [])) (λ start. contents_in f task start reports) (buckets_of span task.precision)
      (All-weaker (λ start. in_bucket task start r ≡ false) (λ start. contents_in f task start (reports ++ r ∷ []) ≡ contents_in f task start reports)
      (λ start e. contents-push f task start reports r e) (buckets_of span task.precision) out)

  batch_rejected-push : (reports : List Report) (r : Report) → IsOutside r → batch_rejected f task span (reports ++ r ∷ []) ≡ batch_rejected f task span reports
  batch_rejected-push reports r out =
      sum_by-agree (λ start. rejected_in f task start (reports ++ r ∷ [])) (λ start. rejected_in f task start reports) (buckets_of span task.precision)
      (All-weaker (λ start. in_bucket task start r ≡ false) (λ start. rejected_in f task start (reports ++ r ∷ []) ≡ rejected_in f task start reports)
      (λ start e. rejected-push f task start reports r e) (buckets_of span task.precision) out)

  module _ (tasks : List PlainTask) (known : find (has_name task.name) tasks ≡ Some task) (contents : List (List ℕ)) (rejected : ℕ) where
    -- the batch is collected, with these contents and so many rejected reports
    record Stays (s : State) : Type 0 where
      tasks_are : s.tasks ≡ tasks
      closed : is_collected s.collected task.name span ≡ true
      contents_are : batch_contents f task span s.accepted ≡ contents
      rejected_are : batch_rejected f task span s.accepted ≡ rejected

    -- no report is accepted in a bucket of the batch
    outside : (s : State) (t : PlainTask) (r : Report) → Stays s → find (has_name r.name) s.tasks ≡ Some t
        → is_closed s.collected r.name t.precision (batch_start r.time t.precision) ≡ false → IsOutside r
    outside s t r h found open_ = go (bytes_eq r.name task.name) refl
      where
        bucket : ℕ
        bucket = batch_start r.time task.precision

        held : r.name ≡ task.name → holds_bucket span task.precision bucket ≡ false
        held named =
            let both : Some t ≡ Some task = sym found ∙ ap (λ (n : List ℕ). find (has_name n) s.tasks) named ∙ ap (find (has_name task.name)) h.tasks_are ∙ known in
            let same : t ≡ task = cc in
            let test : Batch → Bool = has_bucket r.name t.precision (batch_start r.time t.precision) in
            let closed : Contains s.collected (record { task = task.name; span = span }) = collected_in s.collected task.name span h.closed in
            false_from_ne_true (holds_bucket span task.precision bucket) (λ is.
            let passes : test (record { task = task.name; span = span }) ≡ true =
            and_from _ _ ((bytes_eq-Decides task.name r.name).1 (sym named)) (ap (λ (p : PlainTask). holds_bucket span p.precision (batch_start r.time p.precision)) same ∙ is) in
            both_ways (list_any test s.collected) open_ (any_from test s.collected (record { task = task.name; span = span }) closed passes))

        go : (b : Bool) → bytes_eq r.name task.name ≡ b → IsOutside r
        go false e = λ i d within. and_left _ _ e
        go true e =
            All-weaker (λ start. nat_eq bucket start ≡ false) (λ start. in_bucket task start r ≡ false) (λ start apart. and_right _ _ apart) (buckets_of span task.precision)
            (none_pass (nat_eq bucket) (buckets_of span task.precision) (held ((bytes_eq-Decides r.name task.name).0 e)))

    judgement_stays : (s : State) (k : ℕ) (t : PlainTask) (r : Report) → find (has_name r.name) s.tasks ≡ Some t → Stays s
        → (j : Judged) → judgement s t r ≡ j → Stays (after_judgement s k r j).0
    judgement_stays s k t r found h Again e = h
    judgement_stays s k t r found h (Barred why) e = h
    judgement_stays s k t r found h Added e =
        let known : Option (List ℕ) = known_in s.accepted r.name r.id in
        let closed : Bool = is_closed s.collected r.name t.precision (batch_start r.time t.precision) in
        let open_ = added_by_tests (is_known_as known (report.spell r)) (is_early s.moment r.time) (is_expired s.moment t.expires) (is_some known) closed e in
        let out : IsOutside r = outside s t r h found open_.1 in
        record {
          tasks_are = h.tasks_are;
          closed = h.closed;
          contents_are = batch_contents-push s.accepted r out ∙ h.contents_are;
          rejected_are = batch_rejected-push s.accepted r out ∙ h.rejected_are;
        }

    offer_stays : (s : State) (k : ℕ) (t : PlainTask) (r : Report) → find (has_name r.name) s.tasks ≡ Some t → Stays s → Stays (offered s k t r).0
    offer_stays s k t r found h = judgement_stays s k t r found h (judgement s t r) refl

    measure_stays : (s : State) (k : ℕ) (name id : List ℕ) (time : ℕ) (value seed : List ℕ) → Stays s → Stays (step f s k (line.Measure name id time value seed)).0
    measure_stays s k name id time value seed h = go (find (has_name name) s.tasks) refl
      where
        shared : (t : PlainTask) → find (has_name name) s.tasks ≡ Some t → (o : Option Parts)
            → Stays (option_map_or (offered s k t) (option_map (report_of t id time) o) (refused s k cause.Value)).0
        shared t found None = h
        shared t found (Some p) =
            offer_stays s k t (report_of t id time p) (ap (λ (n : List ℕ). find (has_name n) s.tasks) (found_name name s.tasks t found) ∙ found) h

        go : (o : Option PlainTask) → find (has_name name) s.tasks ≡ o → Stays (option_map_or (measure_of f s k id time value seed) o (refused s k cause.Task)).0
        go None e = h
        go (Some t) e = shared t e ((f t.kind).shard id value seed)

    upload_stays : (s : State) (k : ℕ) (bytes : List ℕ) → Stays s → Stays (step f s k (line.Upload bytes)).0
    upload_stays s k bytes h = named (name_in bytes) refl
      where
        read : (name : List ℕ) (t : PlainTask) → name_in bytes ≡ Some name → find (has_name name) s.tasks ≡ Some t → (o : Result Report ℕ) → whole report bytes ≡ o
            → Stays (option_map_or (offered s k t) (result_ok o) (refused s k cause.Form)).0
        read name t own found (Err at) e = h
        read name t own found (Ok r) e =
            let both : Some r.name ≡ Some name = sym (name_in-report bytes r e) ∙ own in
            let same : r.name ≡ name = cc in
            offer_stays s k t r (ap (λ (n : List ℕ). find (has_name n) s.tasks) same ∙ found) h

        found_so : (name : List ℕ) → name_in bytes ≡ Some name → (o : Option PlainTask) → find (has_name name) s.tasks ≡ o
            → Stays (option_map_or (upload_to s k bytes) o (refused s k cause.Task)).0
        found_so name own None e = h
        found_so name own (Some t) e = read name t own e (whole report bytes) refl

        named : (o : Option (List ℕ)) → name_in bytes ≡ o → Stays (option_map_or (upload_named s k bytes) o (refused s k cause.Form)).0
        named None e = h
        named (Some name) e = found_so name e (find (has_name name) s.tasks) refl

    collect_stays : (s : State) (k : ℕ) (name : List ℕ) (other : Span) → Stays s → Stays (step f s k (line.Collect name other)).0
    collect_stays s k name other h = go (changes_named f s k (line.Collect name other))
      where
        go : ((step f s k (line.Collect name other)).0 ≡ s) ⊎ AddsBatch s (step f s k (line.Collect name other)).0 name other → Stays (step f s k (line.Collect name other)).0
        go (inl same) = subst Stays (sym same) h
        go (inr adds) = subst Stays (sym adds) (record {
          tasks_are = h.tasks_are;
          closed = list_any-append (is_batch task.name span) s.collected (record { task = name; span = other } ∷ []) ∙ or_left _ _ h.closed;
          contents_are = h.contents_are;
          rejected_are = h.rejected_are;
        })

    step_stays : (s : State) (k : ℕ) (l : Line) → Stays s → Stays (step f s k l).0
    step_stays s k line.Blank h = h
    step_stays s k (line.Task name kind min precision expires) h = h
    step_stays s k (line.Now t) h = record { tasks_are = h.tasks_are; closed = h.closed; contents_are = h.contents_are; rejected_are = h.rejected_are }
    step_stays s k (line.Measure name id time value seed) h = measure_stays s k name id time value seed h
    step_stays s k (line.Upload bytes) h = upload_stays s k bytes h
    step_stays s k (line.Collect name other) h = collect_stays s k name other h
    step_stays s k (line.Restart node) h = h

    run_stays : (s : State) (k : ℕ) (lines : List Line) → Stays s → Stays (state_after f s k lines)
    run_stays s k [] h = h
    run_stays s k (l ∷ more) h = run_stays (step f s k l).0 (k + 1) more (step_stays s k l h)

    -- what a collection of the batch prints
    abbrev line_of : List (List ℕ) → ℕ → Printed
    line_of c n = Collected task.name span (record { reports = length c; rejected = n; answer = (f task.kind).answer (total_numbers (f task.kind).space c) })

    collection_stays : (s : State) (k : ℕ) → Stays s → passes_start span task.precision ≡ true → (step f s k (line.Collect task.name span)).1 ≡ line_of contents rejected ∷ []
    collection_stays s k h passes =
        let found : find (has_name task.name) s.tasks ≡ Some task = ap (find (has_name task.name)) h.tasks_are ∙ known in
        let other : Option Span = earliest (sharing task span s.collected) in
        let enough : Bool = nat_le task.min (reports_with_content f s task span) in
        ap (λ (o : Option PlainTask). (option_map_or (collect_of f s k span) o (refused s k cause.Task)).1) found
        ∙ (λ i. (tests f s k span task (passes i) (h.closed i) other enough).1)
        ∙ (λ i. line_of (h.contents_are i) (h.rejected_are i) ∷ [])

pub collections-repeated : (f : Kind → Functions) (s : State) (k later : ℕ) (name : List ℕ) (span : Span) (what : Counts) (lines : List Line)
    → (step f s k (line.Collect name span)).1 ≡ Collected name span what ∷ []
    → (step f (state_after f (step f s k (line.Collect name span)).0 (k + 1) lines) later (line.Collect name span)).1 ≡ Collected name span what ∷ []
collections-repeated f s k later name span what lines e = found (find (has_name name) s.tasks) refl e
  where
    Repeats : Outcome → Type 0
    Repeats o = o.1 ≡ Collected name span what ∷ [] → (step f (state_after f o.0 (k + 1) lines) later (line.Collect name span)).1 ≡ Collected name span what ∷ []

    -- behind a state in which the batch is collected, with the reports of now
    behind : (t : PlainTask) → find (has_name name) s.tasks ≡ Some t → passes_start span t.precision ≡ true
        → (first : State) → first.tasks ≡ s.tasks → first.accepted ≡ s.accepted → is_collected first.collected t.name span ≡ true
        → collection_of f s t span ∷ [] ≡ Collected name span what ∷ []
        → (step f (state_after f first (k + 1) lines) later (line.Collect name span)).1 ≡ Collected name span what ∷ []
    behind t is passes first tasks accepted closed h =
        let named : t.name ≡ name = found_name name s.tasks t is in
        let known : find (has_name t.name) s.tasks ≡ Some t = ap (λ (n : List ℕ). find (has_name n) s.tasks) named ∙ is in
        let contents : List (List ℕ) = batch_contents f t span s.accepted in
        let rejected : ℕ = batch_rejected f t span s.accepted in
        let begins : Stays f t span s.tasks known contents rejected first =
        record { tasks_are = tasks; closed = closed; contents_are = ap (batch_contents f t span) accepted; rejected_are = ap (batch_rejected f t span) accepted } in
        let last : State = state_after f first (k + 1) lines in
        let stays : Stays f t span s.tasks known contents rejected last = run_stays f t span s.tasks known contents rejected first (k + 1) lines begins in
        ap (λ (n : List ℕ). (step f last later (line.Collect n span)).1) (sym named)
        ∙ collection_stays f t span s.tasks known contents rejected last later stays passes ∙ h

    by_tests_of : (t : PlainTask) → find (has_name name) s.tasks ≡ Some t → (passes : Bool) → passes_start span t.precision ≡ passes
        → (was : Bool) → is_collected s.collected t.name span ≡ was → (other : Option Span) (enough : Bool) → Repeats (tests f s k span t passes was other enough)
    by_tests_of t is false p was w other enough h = absurd cc
    by_tests_of t is true p true w other enough h = behind t is p s refl refl w h
    by_tests_of t is true p false w (Some o) enough h = absurd cc
    by_tests_of t is true p false w None true h =
        behind t is p (with_collected s t.name span) refl refl
        (collected_is (s.collected ++ record { task = t.name; span = span } ∷ []) t.name span (Contains-push s.collected (record { task = t.name; span = span }))) h
    by_tests_of t is true p false w None false h = absurd cc

    found : (o : Option PlainTask) → find (has_name name) s.tasks ≡ o → Repeats (option_map_or (collect_of f s k span) o (refused s k cause.Task))
    found None is h = absurd cc
    found (Some t) is h =
        by_tests_of t is (passes_start span t.precision) refl (is_collected s.collected t.name span) refl (earliest (sharing t span s.collected))
        (nat_le t.min (reports_with_content f s t span)) h
