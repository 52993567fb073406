-- A report is accepted at most once.
use Rattle.std.proofs.Common.{◌≡◌, ℕ, ◌+◌, List, [], ◌∷◌, ◌++◌, cond, true, false, ◌||◌, is_some, Option, Some, None, refl, sym, ◌∙◌, subst}
use Rattle.std.proofs.lemmas.Bool.{or_from, or_parts}
use Rattle.std.proofs.lemmas.List.Folds.{list_any-append}
use Rattle.std.specs.List.{find, list_any}
use Rattle.std.specs.Option.{option_map, option_map_or}
use Rattle.vdaf_api.specs.Functions.{Functions}
use Rattle.dap_messages.specs.declared.report.Report.{Report}
use Rattle.dap_messages.specs.Messages.{report}
use Rattle.dap_messages.specs.Reports.{has_key, known_in}
use Rattle.dap_seal.specs.Reports.{honest_report}
use Rattle.dap_batch.specs.Group.{batch_start}
use Rattle.vdaf_api.specs.declared.kind.Kind.{Kind}
use Rattle.dap_tasks.specs.DistinctLaws.{bytes_eq-turned}
use Rattle.dap_tasks.specs.Judged.{is_early, is_known_as, is_expired}
use Rattle.dap_tasks.specs.Task.{PlainTask}
use Rattle.dap_tasks.specs.declared.cause.Cause.{Cause}
use Rattle.dap_tasks.specs.declared.cause.Cause.TheVariants as cause
use Rattle.dap_tasks.specs.declared.cause.Judged.{Judged}
use Rattle.dap_tasks.specs.declared.cause.Judged.TheVariants.{Again, Barred, Added}
use Rattle.dap_script.specs.declared.line.Line.{Line}
use Rattle.dap_script.specs.declared.line.Line.TheVariants as line
use Rattle.dap_model.proofs.ChangeLaws.{by_task, collect_accepts}
use Rattle.dap_model.specs.Changes.{AreDistinct}
use Rattle.dap_model.specs.Run.{state_after}
use Rattle.dap_model.specs.State.{State, is_closed}
use Rattle.dap_model.specs.Step.{Outcome, after_judgement, measure_of, name_in, offered, refused, report_in, step, upload_named, upload_to, judgement}
use Rattle.dap_model.proofs.TestLemmas.{added_by_tests}

pub has_key-turned : (a b : Report) → has_key a.name a.id b ≡ has_key b.name b.id a
has_key-turned a b = rw (bytes_eq-turned b.name a.name, bytes_eq-turned b.id a.id) refl

pub distinct_after : (reports : List Report) (new : Report) → AreDistinct reports → list_any (has_key new.name new.id) reports ≡ false → AreDistinct (reports ++ new ∷ [])
distinct_after [] new d h = (refl, tt)
distinct_after (a ∷ more) new d h =
    let p = or_parts (has_key new.name new.id a) (list_any (has_key new.name new.id) more) h in
    (list_any-append (has_key a.name a.id) more (new ∷ []) ∙ or_from _ _ d.0 (or_from _ _ (has_key-turned a new ∙ p.0) refl), distinct_after more new d.1 p.1)

-- there is a known report exactly where one has the task and the identifier
pub is_some-known_in : (accepted : List Report) (name id : List ℕ) → is_some (known_in accepted name id) ≡ list_any (has_key name id) accepted
is_some-known_in [] name id = refl
is_some-known_in (a ∷ more) name id =
    elim (has_key name id a) as (λ b. is_some (option_map report.spell (cond b (Some a) (find (has_key name id) more))) ≡ (b || list_any (has_key name id) more)) [
      | true ↦ refl
      | false ↦ is_some-known_in more name id
    ]

judgement_keeps : (s : State) (k : ℕ) (task : PlainTask) (new : Report) (j : Judged) → judgement s task new ≡ j
    → AreDistinct s.accepted → AreDistinct (after_judgement s k new j).0.accepted
judgement_keeps s k task new Again e d = d
judgement_keeps s k task new (Barred why) e d = d
judgement_keeps s k task new Added e d =
    let known = known_in s.accepted new.name new.id in
    let closed = is_closed s.collected new.name task.precision (batch_start new.time task.precision) in
    distinct_after s.accepted new d
    (sym (is_some-known_in s.accepted new.name new.id)
    ∙ (added_by_tests (is_known_as known (report.spell new)) (is_early s.moment new.time) (is_expired s.moment task.expires) (is_some known) closed e).0)

offer_keeps : (s : State) (k : ℕ) (task : PlainTask) (why : Cause) (o : Option Report) → AreDistinct s.accepted
    → AreDistinct (option_map_or (offered s k task) o (refused s k why)).0.accepted
offer_keeps s k task why None d = d
offer_keeps s k task why (Some new) d = judgement_keeps s k task new (judgement s task new) refl d

upload_keeps : (s : State) (k : ℕ) (bytes : List ℕ) (o : Option (List ℕ)) → AreDistinct s.accepted
    → AreDistinct (option_map_or (upload_named s k bytes) o (refused s k cause.Form)).0.accepted
upload_keeps s k bytes None d = d
upload_keeps s k bytes (Some name) d =
    let P : Outcome → Type 0 = λ o. AreDistinct o.0.accepted in
    by_task P (upload_to s k bytes) (refused s k cause.Task) name s.tasks d (λ task e. offer_keeps s k task cause.Form (report_in bytes) d)

pub distinct_kept : (f : Kind → Functions) (s : State) (k : ℕ) (l : Line) → AreDistinct s.accepted → AreDistinct (step f s k l).0.accepted
distinct_kept f s k line.Blank d = d
distinct_kept f s k (line.Task name kind min precision expires) d = d
distinct_kept f s k (line.Now t) d = d
distinct_kept f s k (line.Measure name id time value seed) d =
    let P : Outcome → Type 0 = λ o. AreDistinct o.0.accepted in
    by_task P (measure_of f s k id time value seed) (refused s k cause.Task) name s.tasks d
    (λ task e. offer_keeps s k task cause.Value (honest_report (f task.kind) task id time value seed) d)
distinct_kept f s k (line.Upload bytes) d = upload_keeps s k bytes (name_in bytes) d
distinct_kept f s k (line.Collect name span) d = subst AreDistinct (sym (collect_accepts f s k name span)) d
distinct_kept f s k (line.Restart node) d = d

pub run_distinct : (f : Kind → Functions) (s : State) (k : ℕ) (lines : List Line) → AreDistinct s.accepted → AreDistinct (state_after f s k lines).accepted
run_distinct f s k [] d = d
run_distinct f s k (l ∷ more) d = run_distinct f (step f s k l).0 (k + 1) more (distinct_kept f s k l d)
