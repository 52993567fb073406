-- What an upload comes to.
use Rattle.std.proofs.Common.{◌≡◌, ℕ, List, [], ◌∷◌, Bool, true, false, is_some, Option, Some, None, Result, Ok, Err, refl, sym, ap, subst, ◌∙◌}
use Rattle.std.specs.List.{find}
use Rattle.std.specs.Option.{option_map, option_map_or}
use Rattle.std.specs.Result.{result_ok}
use Rattle.dap_bytes.specs.Name.{IsName}
use Rattle.vdaf_api.specs.Functions.{Functions, Parts}
use Rattle.vdaf_api.specs.Kind.{IsKind}
use Rattle.vdaf_api.specs.Promises.{FunctionLaws}
use Rattle.vdaf_api.specs.declared.kind.Kind.{Kind}
use Rattle.dap_messages.specs.Grammar.{whole}
use Rattle.dap_messages.specs.Laws.{whole_again}
use Rattle.dap_messages.specs.MessageLaws.{report_lawful}
use Rattle.dap_messages.specs.Messages.{report}
use Rattle.dap_messages.specs.Reports.{known_in}
use Rattle.dap_messages.specs.declared.report.Report.{Report}
use Rattle.dap_seal.proofs.Honest.{honest-allowed, honest-is}
use Rattle.dap_seal.specs.Reports.{report_of}
use Rattle.dap_tasks.specs.Judged.{is_early, is_known_as, is_expired}
use Rattle.dap_tasks.specs.Task.{PlainTask, has_name}
use Rattle.dap_tasks.specs.declared.cause.Cause.{Cause}
use Rattle.dap_tasks.specs.declared.cause.Cause.TheVariants as cause
use Rattle.dap_script.specs.declared.line.Line.TheVariants as line
use Rattle.dap_model.proofs.NameLemmas.{begins_from, name_in-begins, name_in-report}
use Rattle.dap_batch.specs.Group.{batch_start}
use Rattle.dap_model.specs.State.{State, is_closed}
use Rattle.dap_model.specs.Step.{Outcome, after_judgement, measure_of, name_in, offered, refused, report_in, step, upload_named, upload_of, upload_to}
use Rattle.dap_model.specs.Uploads.{GoesByTheFirstCause, IsHonest, IsNoReport, MeasuresByTheFirstCause, NamesNoTask}
use Rattle.dap_model.specs.declared.printed.Printed.TheVariants.{Refused}
use Rattle.dap_model.proofs.ChangeLaws.{found_name}
use Rattle.dap_model.proofs.TestLemmas.{by_tests}

-- ---- honest reports

-- a report of a known task whose bytes are uploaded is offered to the task
upload_offers : (s : State) (k : ℕ) (bytes : List ℕ) (r : Report) (t : PlainTask) → whole report bytes ≡ Ok r → find (has_name r.name) s.tasks ≡ Some t
    → upload_of s k bytes ≡ offered s k t r
upload_offers s k bytes r t read known =
    ap (λ (o : Option (List ℕ)). option_map_or (upload_named s k bytes) o (refused s k cause.Form)) (name_in-report bytes r read)
    ∙ ap (λ (o : Option PlainTask). option_map_or (upload_to s k bytes) o (refused s k cause.Task)) known
    ∙ ap (λ (o : Result Report ℕ). option_map_or (offered s k t) (result_ok o) (refused s k cause.Form)) read

pub upload-honest : (f : Kind → Functions) → ((k : Kind) → IsKind k → FunctionLaws (f k)) → (s : State) (k : ℕ) (name id : List ℕ) (time : ℕ) (value seed : List ℕ) (r : Report)
    → IsHonest f s.tasks name id time value seed r → step f s k (line.Upload (report.spell r)) ≡ step f s k (line.Measure name id time value seed)
upload-honest f laws s k name id time value seed r h =
    let t : PlainTask = h.task in
    let made = honest-is (f t.kind) t id time value seed r h.made in
    let named : t.name ≡ name = found_name name s.tasks t h.known in
    let spelled : IsName t.name = subst IsName (sym named) h.is_name in
    let short = (laws t.kind h.kind).parts id value seed made.parts made.sharded in
    let allowed : report.allowed (report_of t id time made.parts) ≡ true = honest-allowed t id time made.parts spelled h.id_bytes h.is_time short in
    let read : whole report (report.spell r) ≡ Ok r = whole_again report report_lawful r (subst (λ (x : Report). report.allowed x ≡ true) made.is allowed) in
    let own : r.name ≡ name = ap (λ (x : Report). x.name) (sym made.is) ∙ named in
    upload_offers s k (report.spell r) r t read (ap (λ (n : List ℕ). find (has_name n) s.tasks) own ∙ h.known)
    ∙ sym (ap (λ (o : Option PlainTask). option_map_or (measure_of f s k id time value seed) o (refused s k cause.Task)) h.known
    ∙ ap (λ (o : Option Report). option_map_or (offered s k t) o (refused s k cause.Value)) h.made)

-- ---- measurements

pub measure-first_cause : (f : Kind → Functions) (s : State) (k : ℕ) (name id : List ℕ) (time : ℕ) (value seed : List ℕ)
    → MeasuresByTheFirstCause f s k name id time value seed (step f s k (line.Measure name id time value seed))
measure-first_cause f s k name id time value seed = record {
  task = λ none. ap found none;
  value = λ t known none. ap found known ∙ ap (λ (o : Option Parts). option_map_or (offered s k t) (option_map (report_of t id time) o) (refused s k cause.Value)) none;
  else_offered = λ t r known made. ap found known ∙ ap (λ (o : Option Report). option_map_or (offered s k t) o (refused s k cause.Value)) made;
}
  where
    found : Option PlainTask → Outcome
    found o = option_map_or (measure_of f s k id time value seed) o (refused s k cause.Task)

-- ---- the causes

module _ (s : State) (k : ℕ) (bytes : List ℕ) where
  abbrev Said : Outcome → Cause → Type 0
  Said after why = after.1 ≡ Refused k why ∷ []

  -- a report that is offered is refused neither as of no task nor as no report
  offered_says : (r : Report) (why : Cause) → (again early expired known closed : Bool)
      → Said (after_judgement s k r (by_tests again early expired known closed)) why
      → (why ≡ cause.Task → ⊥) × (why ≡ cause.Form → ⊥)
  offered_says r why true early expired known closed e = absurd cc
  offered_says r why false true expired known closed e = (λ h. absurd cc, λ h. absurd cc)
  offered_says r why false false true known closed e = (λ h. absurd cc, λ h. absurd cc)
  offered_says r why false false false true closed e = (λ h. absurd cc, λ h. absurd cc)
  offered_says r why false false false false true e = (λ h. absurd cc, λ h. absurd cc)
  offered_says r why false false false false false e = absurd cc

  -- what an upload that begins with a known task's name comes to
  abbrev To : PlainTask → Option Report → Outcome
  To t o = option_map_or (offered s k t) o (refused s k cause.Form)

  only_known : (t : PlainTask) (o : Option Report) → (why : Cause) → Said (To t o) why → (why ≡ cause.Task → ⊥) × (why ≡ cause.Form → o ≡ None)
  only_known t None why e = (λ h. absurd cc, λ h. refl)
  only_known t (Some r) why e =
      let known = known_in s.accepted r.name r.id in
      let p = offered_says r why (is_known_as known (report.spell r)) (is_early s.moment r.time) (is_expired s.moment t.expires) (is_some known)
      (is_closed s.collected r.name t.precision (batch_start r.time t.precision)) e in
      (p.0, λ h. absurd (p.1 h))

  unread : (o : Result Report ℕ) → whole report bytes ≡ o → result_ok o ≡ None → IsNoReport bytes
  unread (Ok r) is e = absurd cc
  unread (Err at) is e = (at, is)

  -- the name that the bytes begin with is the only one
  not_unknown : (name : List ℕ) (t : PlainTask) → name_in bytes ≡ Some name → find (has_name name) s.tasks ≡ Some t → NamesNoTask s.tasks bytes → ⊥
  not_unknown name t own known none =
      let both : Some name ≡ Some none.name = sym own ∙ name_in-begins bytes none.name none.begins in
      let same : name ≡ none.name = cc in
      let other : find (has_name name) s.tasks ≡ None = ap (λ (n : List ℕ). find (has_name n) s.tasks) same ∙ none.unknown in
      absurd cc

  upload_task : NamesNoTask s.tasks bytes → upload_of s k bytes ≡ refused s k cause.Task
  upload_task none =
      ap (λ (o : Option (List ℕ)). option_map_or (upload_named s k bytes) o (refused s k cause.Form)) (name_in-begins bytes none.name none.begins)
      ∙ ap (λ (o : Option PlainTask). option_map_or (upload_to s k bytes) o (refused s k cause.Task)) none.unknown

  upload_form : (NamesNoTask s.tasks bytes → ⊥) → IsNoReport bytes → upload_of s k bytes ≡ refused s k cause.Form
  upload_form known no_report = named (name_in bytes) refl
    where
      found : (name : List ℕ) → name_in bytes ≡ Some name → (o : Option PlainTask) → find (has_name name) s.tasks ≡ o
          → option_map_or (upload_to s k bytes) o (refused s k cause.Task) ≡ refused s k cause.Form
      found name own None e = absurd (known (record { name = name; begins = begins_from bytes name own; unknown = e }))
      found name own (Some t) e = ap (λ (o : Result Report ℕ). To t (result_ok o)) no_report.1

      named : (o : Option (List ℕ)) → name_in bytes ≡ o → option_map_or (upload_named s k bytes) o (refused s k cause.Form) ≡ refused s k cause.Form
      named None e = refl
      named (Some name) e = found name e (find (has_name name) s.tasks) refl

  -- what is said of a cause tells what the bytes are
  upload_says : (why : Cause) → Said (upload_of s k bytes) why → (why ≡ cause.Task → NamesNoTask s.tasks bytes) × (why ≡ cause.Form → (NamesNoTask s.tasks bytes → ⊥) × IsNoReport bytes)
  upload_says why said = named (name_in bytes) refl said
    where
      Tells : Type 0
      Tells = (why ≡ cause.Task → NamesNoTask s.tasks bytes) × (why ≡ cause.Form → (NamesNoTask s.tasks bytes → ⊥) × IsNoReport bytes)

      found : (name : List ℕ) → name_in bytes ≡ Some name → (o : Option PlainTask) → find (has_name name) s.tasks ≡ o
          → Said (option_map_or (upload_to s k bytes) o (refused s k cause.Task)) why → Tells
      found name own None e h = (λ _. record { name = name; begins = begins_from bytes name own; unknown = e }, λ w. absurd cc)
      found name own (Some t) e h =
          let p = only_known t (report_in bytes) why h in
          (λ w. absurd (p.0 w), λ w. (not_unknown name t own e, unread (whole report bytes) refl (p.1 w)))

      named : (o : Option (List ℕ)) → name_in bytes ≡ o → Said (option_map_or (upload_named s k bytes) o (refused s k cause.Form)) why → Tells
      named None e h =
          (λ w. absurd cc, λ w. (λ none. absurd (let both : None ≡ Some none.name = sym e ∙ name_in-begins bytes none.name none.begins in cc), nameless (whole report bytes) refl))
        where
          nameless : (o : Result Report ℕ) → whole report bytes ≡ o → IsNoReport bytes
          nameless (Ok r) is = absurd (let both : None ≡ Some r.name = sym e ∙ name_in-report bytes r is in cc)
          nameless (Err at) is = (at, is)
      named (Some name) e h = found name e (find (has_name name) s.tasks) refl h

  pub first_cause : GoesByTheFirstCause s k bytes (upload_of s k bytes)
  first_cause = record {
    task = upload_task;
    task_only = λ said. (upload_says cause.Task said).0 refl;
    form = upload_form;
    form_only = λ said. (upload_says cause.Form said).1 refl;
    named = λ r e. begins_from bytes r.name (name_in-report bytes r e);
    else_offered = λ r t read known. upload_offers s k bytes r t read known;
  }
