-- The state after lines whose measurements are taken.
use Rattle.std.proofs.Common.{◌≡◌, ◌⊎◌, ℕ, ◌+◌, List, [], ◌∷◌, ◌++◌, Bool, false, ◌&&◌, is_some, Option, Some, None, refl, sym, ap, subst, ◌∙◌, inl, inr, arith, ◌≤◌, append-nil, append_assoc, ◌<◌}
use Rattle.std.proofs.lemmas.Bool.{or_from, or_parts, le-ltb, ltb-false, lt-leb}
use Rattle.std.proofs.lemmas.List.Elements.{All-contains}
use Rattle.std.proofs.lemmas.List.Folds.{list_any-append}
use Rattle.std.specs.List.{find, list_any, Contains}
use Rattle.std.specs.Option.{option_map, option_map_or, option_to_list}
use Rattle.std.specs.Str.{bytes_eq}
use Rattle.vdaf_api.specs.Functions.{Functions, Parts}
use Rattle.vdaf_api.specs.declared.kind.Kind.{Kind}
use Rattle.dap_batch.specs.Group.{batch_start}
use Rattle.dap_messages.specs.Messages.{report}
use Rattle.dap_messages.specs.Reports.{has_key, known_in}
use Rattle.dap_messages.specs.declared.report.Report.{Report}
use Rattle.dap_seal.specs.Reports.{report_of}
use Rattle.dap_tasks.specs.Judged.{judged, is_early, is_expired}
use Rattle.dap_tasks.specs.Task.{PlainTask, has_name}
use Rattle.dap_tasks.specs.declared.cause.Cause.TheVariants as cause
use Rattle.dap_tasks.specs.declared.cause.Judged.TheVariants.{Added}
use Rattle.dap_script.specs.declared.line.Line.{Line}
use Rattle.dap_script.specs.declared.line.Line.TheVariants as line
use Rattle.dap_model.proofs.ChangeLaws.{changes_named, found_name}
use Rattle.dap_model.proofs.MomentLaws.{greatest-first, greatest-push}
use Rattle.dap_model.proofs.OnceLaws.{is_some-known_in}
use Rattle.dap_model.specs.Changes.{AddsBatch}
use Rattle.dap_model.specs.Counts.{AreTaken, IsTaken, IsTakenLine, collects, is_collection, measures}
use Rattle.dap_model.specs.Moments.{IsGreatest, IsTimely, time_in, times_of, times_since, IsUnexpired}
use Rattle.dap_model.specs.Run.{printed_from, state_after}
use Rattle.dap_model.specs.State.{State, Batch, has_bucket, is_closed}
use Rattle.dap_model.specs.Step.{raised, Outcome, after_judgement, measure_of, offered, refused, step}
use Rattle.dap_model.specs.declared.printed.Printed.{Printed}
use Rattle.dap_bytes.specs.declared.span.Span.{Span}

none_known : (o : Option (List ℕ)) → is_some o ≡ false → o ≡ None
none_known None e = refl
none_known (Some x) e = cc e

not_early : (times : List ℕ) (moment : Option ℕ) (time : ℕ) → IsGreatest times moment → IsTimely times time → is_early moment time ≡ false
not_early times None time h timely = refl
not_early times (Some m) time h (inl none) = absurd (let there : Contains [] m = subst (λ (l : List ℕ). Contains l m) none h.0 in omega (arith, there.1))
not_early times (Some m) time h (inr (t, c, le)) =
    let below : t ≤ m = All-contains (λ x. x ≤ m) times t h.1 c in
    le-ltb _ time (omega (arith, below, ltb-false _ time le))

not_expired : (times : List ℕ) (moment expires : Option ℕ) → IsGreatest times moment → IsUnexpired times expires → is_expired moment expires ≡ false
not_expired times None None h u = refl
not_expired times None (Some end) h u = refl
not_expired times (Some m) None h u = refl
not_expired times (Some m) (Some end) h u = lt-leb end m (All-contains (λ t. t < end) times m u h.0)

judged_added : (known : Option (List ℕ)) (moment expires : Option ℕ) (closed : Bool) (bytes : List ℕ) (time : ℕ)
    → known ≡ None → is_early moment time ≡ false → is_expired moment expires ≡ false → closed ≡ false
    → judged known moment expires closed bytes time ≡ Added
judged_added known moment expires closed bytes time e m x c = rw (e, m, x, c) refl

times_of-push : (done : List Line) (l : Line) → times_of (done ++ l ∷ []) ≡ times_of done ++ time_in l
times_of-push [] l = append-nil (time_in l)
times_of-push (x ∷ done) l = ap (λ r. time_in x ++ r) (times_of-push done l) ∙ sym (append_assoc (time_in x) (times_of done) (time_in l))

times_since-push : (moment : Option ℕ) (done : List Line) (l : Line) → times_since moment (done ++ l ∷ []) ≡ times_since moment done ++ time_in l
times_since-push moment done l = ap (λ r. option_to_list moment ++ r) (times_of-push done l) ∙ sym (append_assoc (option_to_list moment) (times_of done) (time_in l))

module _ (f : Kind → Functions) (opened : State) where
  abbrev tasks : List PlainTask
  tasks = opened.tasks

  -- the reports that a line's measurement makes
  abbrev pub made_by : Line → List Report
  made_by (line.Measure name id time value seed) =
      option_map_or (λ t. option_map_or (λ p. report_of t id time p ∷ []) ((f t.kind).shard id value seed) []) (find (has_name name) tasks) []
  made_by other = []

  abbrev pub reports_of : List Line → List Report
  reports_of [] = []
  reports_of (l ∷ more) = made_by l ++ reports_of more

  reports_of-push : (done : List Line) (l : Line) → reports_of (done ++ l ∷ []) ≡ reports_of done ++ made_by l
  reports_of-push [] l = append-nil (made_by l)
  reports_of-push (x ∷ done) l = ap (λ r. made_by x ++ r) (reports_of-push done l) ∙ sym (append_assoc (made_by x) (reports_of done) (made_by l))

  -- the state after lines that are taken
  pub record Stands (done : List Line) (s : State) : Type 0 where
    pub known : s.tasks ≡ tasks
    pub moment : IsGreatest (times_since opened.moment done) s.moment
    pub accepted : s.accepted ≡ opened.accepted ++ reports_of done
    pub collected : (has_it : Batch → Bool) → list_any has_it opened.collected ≡ false → list_any (collects has_it) done ≡ false → list_any has_it s.collected ≡ false

  made_none : (name id n i : List ℕ) (time : ℕ) (value seed : List ℕ) → (bytes_eq n name && bytes_eq i id) ≡ false
      → list_any (has_key name id) (made_by (line.Measure n i time value seed)) ≡ false
  made_none name id n i time value seed e = go (find (has_name n) tasks) (λ t is. found_name n tasks t is)
    where
      parts : (t : PlainTask) → t.name ≡ n → (o : Option Parts) → list_any (has_key name id) (option_map_or (λ p. report_of t i time p ∷ []) o []) ≡ false
      parts t named None = refl
      parts t named (Some p) = or_from _ _ (ap (λ (m : List ℕ). bytes_eq m name && bytes_eq i id) named ∙ e) refl

      go : (o : Option PlainTask) → ((t : PlainTask) → o ≡ Some t → t.name ≡ n)
          → list_any (has_key name id) (option_map_or (λ t. option_map_or (λ p. report_of t i time p ∷ []) ((f t.kind).shard i value seed) []) o []) ≡ false
      go None named = refl
      go (Some t) named = parts t (named t refl) ((f t.kind).shard i value seed)

  no_report : (name id : List ℕ) (done : List Line) → list_any (measures name id) done ≡ false → list_any (has_key name id) (reports_of done) ≡ false
  no_report name id [] h = refl
  no_report name id (line.Measure n i time value seed ∷ done) h =
      let p = or_parts (bytes_eq n name && bytes_eq i id) (list_any (measures name id) done) h in
      list_any-append (has_key name id) (made_by (line.Measure n i time value seed)) (reports_of done)
      ∙ or_from _ _ (made_none name id n i time value seed p.0) (no_report name id done p.1)
  no_report name id (line.Blank ∷ done) h = no_report name id done h
  no_report name id (line.Task n kind min precision expires ∷ done) h = no_report name id done h
  no_report name id (line.Now t ∷ done) h = no_report name id done h
  no_report name id (line.Upload bytes ∷ done) h = no_report name id done h
  no_report name id (line.Collect n span ∷ done) h = no_report name id done h
  no_report name id (line.Restart node ∷ done) h = no_report name id done h

  -- a line that neither measures nor collects nor tells a time keeps what stands
  still : (done : List Line) (l : Line) (s : State) → made_by l ≡ [] → time_in l ≡ [] → Stands done s → Stands (done ++ l ∷ []) s
  still done l s none untold h = record {
    known = h.known;
    moment = subst (λ (times : List ℕ). IsGreatest times s.moment)
        (sym (times_since-push opened.moment done l ∙ ap (λ r. times_since opened.moment done ++ r) untold ∙ append-nil (times_since opened.moment done))) h.moment;
    accepted = h.accepted ∙ sym (ap (λ r. opened.accepted ++ r) (reports_of-push done l ∙ ap (λ r. reports_of done ++ r) none ∙ append-nil (reports_of done)));
    collected = λ has_it before e. h.collected has_it before (or_parts _ _ (sym (list_any-append (collects has_it) done (l ∷ [])) ∙ e)).0;
  }

  taken_step : (done : List Line) (s : State) (k : ℕ) (name id : List ℕ) (time : ℕ) (value seed : List ℕ) → Stands done s → (t : IsTaken f opened done name id time value seed)
      → step f s k (line.Measure name id time value seed) ≡ (record s { accepted = s.accepted ++ report_of t.task id time t.shares ∷ [] }, [])
  taken_step done s k name id time value seed h t =
      let a : Report = report_of t.task id time t.shares in
      let bucket : ℕ = batch_start time t.task.precision in
      let closed : Bool = is_closed s.collected t.task.name t.task.precision bucket in
      let named : t.task.name ≡ name = found_name name tasks t.task t.known in
      let none : list_any (has_key t.task.name id) s.accepted ≡ false =
      ap (λ (n : List ℕ). list_any (has_key n id) s.accepted) named ∙ ap (list_any (has_key name id)) h.accepted
      ∙ list_any-append (has_key name id) opened.accepted (reports_of done) ∙ or_from _ _ t.unknown (no_report name id done t.new) in
      let unknown : known_in s.accepted t.task.name id ≡ None = none_known (known_in s.accepted t.task.name id) (is_some-known_in s.accepted t.task.name id ∙ none) in
      let open_ : closed ≡ false =
      ap (λ (n : List ℕ). is_closed s.collected n t.task.precision bucket) named ∙ h.collected (has_bucket name t.task.precision bucket) t.open_ t.uncollected in
      let found : find (has_name name) s.tasks ≡ Some t.task = ap (find (has_name name)) h.known ∙ t.known in
      ap (λ (o : Option PlainTask). option_map_or (measure_of f s k id time value seed) o (refused s k cause.Task)) found
      ∙ ap (λ (o : Option Parts). option_map_or (offered s k t.task) (option_map (report_of t.task id time) o) (refused s k cause.Value)) t.shared
      ∙ ap (after_judgement s k a) (judged_added (known_in s.accepted t.task.name id) s.moment t.task.expires closed (report.spell a) time unknown
      (not_early (times_since opened.moment done) s.moment time h.moment t.timely) (not_expired (times_since opened.moment done) s.moment t.task.expires h.moment t.unexpired) open_)

  pub made_is : (done : List Line) (name id : List ℕ) (time : ℕ) (value seed : List ℕ) (t : IsTaken f opened done name id time value seed)
      → made_by (line.Measure name id time value seed) ≡ report_of t.task id time t.shares ∷ []
  made_is done name id time value seed t =
      ap (λ (o : Option PlainTask). option_map_or (λ t. option_map_or (λ p. report_of t id time p ∷ []) ((f t.kind).shard id value seed) []) o []) t.known
      ∙ ap (λ (o : Option Parts). option_map_or (λ p. report_of t.task id time p ∷ []) o []) t.shared

  measured_stands : (done : List Line) (s : State) (k : ℕ) (name id : List ℕ) (time : ℕ) (value seed : List ℕ) → Stands done s → IsTaken f opened done name id time value seed
      → Stands (done ++ line.Measure name id time value seed ∷ []) (step f s k (line.Measure name id time value seed)).0
  measured_stands done s k name id time value seed h t =
      let l : Line = line.Measure name id time value seed in
      subst (Stands (done ++ l ∷ [])) (sym (ap (λ (o : Outcome). o.0) (taken_step done s k name id time value seed h t)))
      (record {
        known = h.known;
        moment = subst (λ (times : List ℕ). IsGreatest times s.moment) (sym (times_since-push opened.moment done l ∙ append-nil (times_since opened.moment done))) h.moment;
        accepted = ap (λ r. r ++ report_of t.task id time t.shares ∷ []) h.accepted
            ∙ append_assoc opened.accepted (reports_of done) (report_of t.task id time t.shares ∷ [])
            ∙ sym (ap (λ r. opened.accepted ++ r) (reports_of-push done l ∙ ap (λ r. reports_of done ++ r) (made_is done name id time value seed t)));
        collected = λ has_it before e. h.collected has_it before (or_parts _ _ (sym (list_any-append (collects has_it) done (l ∷ [])) ∙ e)).0;
      })

  collected_stands : (done : List Line) (s : State) (k : ℕ) (name : List ℕ) (span : Span) → Stands done s → Stands (done ++ line.Collect name span ∷ []) (step f s k (line.Collect name span)).0
  collected_stands done s k name span h = go (changes_named f s k (line.Collect name span))
    where
      go : ((step f s k (line.Collect name span)).0 ≡ s) ⊎ AddsBatch s (step f s k (line.Collect name span)).0 name span
          → Stands (done ++ line.Collect name span ∷ []) (step f s k (line.Collect name span)).0
      go (inl same) = subst (Stands (done ++ line.Collect name span ∷ [])) (sym same) (still done (line.Collect name span) s refl refl h)
      go (inr adds) = subst (Stands (done ++ line.Collect name span ∷ [])) (sym adds) (record {
        known = h.known;
        moment = (still done (line.Collect name span) s refl refl h).moment;
        accepted = (still done (line.Collect name span) s refl refl h).accepted;
        collected = λ has_it before e.
            let p = or_parts (list_any (collects has_it) done) (list_any (collects has_it) (line.Collect name span ∷ [])) (sym (list_any-append (collects has_it) done (line.Collect name span ∷ [])) ∙ e) in
            list_any-append has_it s.collected (record { task = name; span = span } ∷ []) ∙ or_from _ _ (h.collected has_it before p.0) p.1;
      })

  told_stands : (done : List Line) (s : State) (t : ℕ) → Stands done s → Stands (done ++ line.Now t ∷ []) (record s { moment = raised s.moment t })
  told_stands done s t h = record {
    known = h.known;
    moment = subst (λ (times : List ℕ). IsGreatest times (raised s.moment t)) (sym (times_since-push opened.moment done (line.Now t)))
        (greatest-push (times_since opened.moment done) s.moment t h.moment);
    accepted = h.accepted ∙ sym (ap (λ r. opened.accepted ++ r) (reports_of-push done (line.Now t) ∙ append-nil (reports_of done)));
    collected = λ has_it before e. h.collected has_it before (or_parts _ _ (sym (list_any-append (collects has_it) done (line.Now t ∷ [])) ∙ e)).0;
  }

  step_stands : (done : List Line) (s : State) (k : ℕ) (l : Line) → Stands done s → IsTakenLine f opened done l → Stands (done ++ l ∷ []) (step f s k l).0
  step_stands done s k line.Blank h t = still done line.Blank s refl refl h
  step_stands done s k (line.Task name kind min precision expires) h t = still done (line.Task name kind min precision expires) s refl refl h
  step_stands done s k (line.Now moment) h t = told_stands done s moment h
  step_stands done s k (line.Measure name id time value seed) h t = measured_stands done s k name id time value seed h t
  step_stands done s k (line.Upload bytes) h t = absurd t
  step_stands done s k (line.Collect name span) h t = collected_stands done s k name span h
  step_stands done s k (line.Restart node) h t = still done (line.Restart node) s refl refl h

  pub run_stands : (done : List Line) (s : State) (k : ℕ) (lines : List Line) → Stands done s → AreTaken f opened done lines → Stands (done ++ lines) (state_after f s k lines)
  run_stands done s k [] h t = subst (λ l. Stands l s) (sym (append-nil done)) h
  run_stands done s k (l ∷ more) h t =
      subst (λ d. Stands d (state_after f (step f s k l).0 (k + 1) more)) (append_assoc done (l ∷ []) more)
      (run_stands (done ++ l ∷ []) (step f s k l).0 (k + 1) more (step_stands done s k l h t.0) t.1)

  pub opening_stands : Stands [] opened
  opening_stands = record {
    known = refl;
    moment = subst (λ (times : List ℕ). IsGreatest times opened.moment) (sym (append-nil (option_to_list opened.moment))) (greatest-first opened.moment);
    accepted = sym (append-nil opened.accepted);
    collected = λ has_it before e. before;
  }

  line_prints : (done : List Line) (s : State) (k : ℕ) (l : Line) → Stands done s → IsTakenLine f opened done l → is_collection l ≡ false → (step f s k l).1 ≡ []
  line_prints done s k line.Blank h t e = refl
  line_prints done s k (line.Task name kind min precision expires) h t e = refl
  line_prints done s k (line.Now moment) h t e = refl
  line_prints done s k (line.Measure name id time value seed) h t e = ap (λ (o : Outcome). o.1) (taken_step done s k name id time value seed h t)
  line_prints done s k (line.Upload bytes) h t e = absurd t
  line_prints done s k (line.Collect name span) h t e = cc e
  line_prints done s k (line.Restart node) h t e = refl

  run_prints : (done : List Line) (s : State) (k : ℕ) (lines : List Line) → Stands done s → AreTaken f opened done lines → list_any is_collection lines ≡ false → printed_from f s k lines ≡ []
  run_prints done s k [] h t e = refl
  run_prints done s k (l ∷ more) h t e =
      let p = or_parts (is_collection l) (list_any is_collection more) e in
      ap (λ (printed : List Printed). printed ++ printed_from f (step f s k l).0 (k + 1) more) (line_prints done s k l h t.0 p.0)
      ∙ run_prints (done ++ l ∷ []) (step f s k l).0 (k + 1) more (step_stands done s k l h t.0) t.1 p.1

  pub measurements_print_nothing : (lines : List Line) → AreTaken f opened [] lines → list_any is_collection lines ≡ false → printed_from f opened 1 lines ≡ []
  measurements_print_nothing lines t e = run_prints [] opened 1 lines opening_stands t e
