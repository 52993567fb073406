-- A line changes nothing but what it names.
use Rattle.std.proofs.Common.{◌∙◌, sym, ap, ◌≡◌, ◌⊎◌, ℕ, not, List, [], ◌∷◌, Bool, cond, true, false, Option, Some, None, refl, subst, inl, inr}
use Rattle.std.proofs.lemmas.Bool.{cond_both}
use Rattle.std.proofs.lemmas.Slice.Eq.{bytes_eq-Decides}
use Rattle.std.specs.List.{find}
use Rattle.std.specs.Option.{option_map, option_map_or}
use Rattle.vdaf_api.specs.Functions.{Functions, Parts}
use Rattle.dap_messages.specs.declared.report.Report.{Report}
use Rattle.dap_messages.specs.Messages.{report}
use Rattle.dap_seal.specs.Reports.{report_of}
use Rattle.vdaf_api.specs.declared.kind.Kind.{Kind}
use Rattle.dap_tasks.specs.Task.{PlainTask, has_name}
use Rattle.dap_tasks.specs.declared.cause.Cause.TheVariants as cause
use Rattle.dap_tasks.specs.declared.cause.Judged.{Judged}
use Rattle.dap_tasks.specs.declared.cause.Judged.TheVariants.{Again, Barred, Added}
use Rattle.dap_script.specs.declared.line.Line.{Line}
use Rattle.dap_script.specs.declared.line.Line.TheVariants as line
use Rattle.dap_model.specs.Changes.{AddsBatch, AddsReport, AddsUpload, ChangesNamed}
use Rattle.dap_model.specs.State.{State, is_collected, earliest, sharing, with_collected}
use Rattle.dap_model.specs.Step.{Outcome, after_judgement, collect_of, measure_of, offered, refused, name_in, report_in, step, upload_named, upload_to, judgement, reports_with_content}
use Rattle.dap_model.specs.declared.printed.Printed.{Printed}
use Rattle.dap_model.specs.declared.printed.Printed.TheVariants.{Overlap}
use Rattle.dap_bytes.specs.declared.span.Span.{Span}
use Rattle.std.specs.Prelude.{nat_le}
use Rattle.dap_bytes.specs.Spans.{passes_start}

-- What holds where no task is found, and at each task of the name, holds at the task that is found.
pub by_task : (P : Outcome → Type 0) (g : PlainTask → Outcome) (none : Outcome) (name : List ℕ) (tasks : List PlainTask)
    → P none → ((task : PlainTask) → task.name ≡ name → P (g task)) → P (option_map_or g (find (has_name name) tasks) none)
by_task P g none name [] missing each = missing
by_task P g none name (first ∷ more) missing each =
    cond_both (has_name name first) (Some first) (find (has_name name) more) (λ found. P (option_map_or g found none))
    (λ e. each first ((bytes_eq-Decides first.name name).0 e)) (λ e. by_task P g none name more missing each)

-- a task that is found by a name has it
pub found_name : (name : List ℕ) (tasks : List PlainTask) (t : PlainTask) → find (has_name name) tasks ≡ Some t → t.name ≡ name
found_name name [] t e = cc e
found_name name (first ∷ more) t e = go (has_name name first) refl e (λ h. found_name name more t h)
  where
    go : (b : Bool) → has_name name first ≡ b → cond b (Some first) (find (has_name name) more) ≡ Some t → (find (has_name name) more ≡ Some t → t.name ≡ name) → t.name ≡ name
    go true own e rest = let same : first ≡ t = cc in ap (λ (t : PlainTask). t.name) (sym same) ∙ (bytes_eq-Decides first.name name).0 own
    go false own e rest = rest e

-- ---- a measurement

abbrev MayAdd : State → List ℕ → List ℕ → ℕ → Outcome → Type 0
MayAdd s name id time after = (after.0 ≡ s) ⊎ AddsReport s after.0 name id time

judgement_may_add : (s : State) (k : ℕ) (new : Report) (j : Judged) → MayAdd s new.name new.id new.time (after_judgement s k new j)
judgement_may_add s k new Again = inl refl
judgement_may_add s k new (Barred why) = inl refl
judgement_may_add s k new Added = inr (record { report = new; of_task = refl; of_id = refl; at_time = refl; grown = refl })

shares_may_add : (s : State) (k : ℕ) (id : List ℕ) (time : ℕ) (task : PlainTask) (shares : Option Parts)
    → MayAdd s task.name id time (option_map_or (offered s k task) (option_map (report_of task id time) shares) (refused s k cause.Value))
shares_may_add s k id time task None = inl refl
shares_may_add s k id time task (Some p) =
    let new : Report = report_of task id time p in
    judgement_may_add s k new (judgement s task new)

-- ---- an upload

abbrev MayAddUpload : State → List ℕ → Outcome → Type 0
MayAddUpload s bytes after = (after.0 ≡ s) ⊎ AddsUpload s after.0 bytes

judgement_may_add_upload : (s : State) (k : ℕ) (bytes : List ℕ) (new : Report) → report_in bytes ≡ Some new → (j : Judged) → MayAddUpload s bytes (after_judgement s k new j)
judgement_may_add_upload s k bytes new e Again = inl refl
judgement_may_add_upload s k bytes new e (Barred why) = inl refl
judgement_may_add_upload s k bytes new e Added = inr (record { report = new; spelled = e; grown = refl })

read_may_add : (s : State) (k : ℕ) (bytes : List ℕ) (task : PlainTask) (o : Option Report) → report_in bytes ≡ o
    → MayAddUpload s bytes (option_map_or (offered s k task) o (refused s k cause.Form))
read_may_add s k bytes task None e = inl refl
read_may_add s k bytes task (Some new) e = judgement_may_add_upload s k bytes new e (judgement s task new)

named_may_add : (s : State) (k : ℕ) (bytes : List ℕ) (o : Option (List ℕ)) → MayAddUpload s bytes (option_map_or (upload_named s k bytes) o (refused s k cause.Form))
named_may_add s k bytes None = inl refl
named_may_add s k bytes (Some name) =
    by_task (MayAddUpload s bytes) (upload_to s k bytes) (refused s k cause.Task) name s.tasks (inl refl)
    (λ task e. read_may_add s k bytes task (report_in bytes) refl)

-- ---- a collection

abbrev MayCollect : State → List ℕ → Span → Outcome → Type 0
MayCollect s name span after = (after.0 ≡ s) ⊎ AddsBatch s after.0 name span

tests_may_collect : (s : State) (k : ℕ) (name : List ℕ) (span : Span) (late was : Bool) (other : Option Span) (enough : Bool) (refusal again collection small : List Printed)
    → MayCollect s name span (cond late (s, refusal) (cond was (s, again)
    (option_map_or (λ o. (s, Overlap k o ∷ [])) other (cond enough (with_collected s name span, collection) (s, small)))))
tests_may_collect s k name span true was other enough refusal again collection small = inl refl
tests_may_collect s k name span false true other enough refusal again collection small = inl refl
tests_may_collect s k name span false false (Some o) enough refusal again collection small = inl refl
tests_may_collect s k name span false false None true refusal again collection small = inr refl
tests_may_collect s k name span false false None false refusal again collection small = inl refl

-- ---- the law

pub changes_named : (f : Kind → Functions) (s : State) (k : ℕ) (l : Line) → ChangesNamed s (step f s k l).0 l
changes_named f s k line.Blank = refl
changes_named f s k (line.Task name kind min precision expires) = refl
changes_named f s k (line.Now t) = refl
changes_named f s k (line.Measure name id time value seed) =
    let offers = measure_of f s k id time value seed in
    by_task (MayAdd s name id time) offers (refused s k cause.Task) name s.tasks (inl refl)
    (λ task e. subst (λ (n : List ℕ). MayAdd s n id time (offers task)) e (shares_may_add s k id time task ((f task.kind).shard id value seed)))
changes_named f s k (line.Upload bytes) = named_may_add s k bytes (name_in bytes)
changes_named f s k (line.Collect name span) =
    by_task (MayCollect s name span) (collect_of f s k span) (refused s k cause.Task) name s.tasks (inl refl)
    (λ task e. subst (λ (n : List ℕ). MayCollect s n span (collect_of f s k span task)) e
    (tests_may_collect s k task.name span (not (passes_start span task.precision)) (is_collected s.collected task.name span) (earliest (sharing task span s.collected))
    (nat_le task.min (reports_with_content f s task span)) _ _ _ _))
changes_named f s k (line.Restart node) = refl

-- a collection accepts nothing
pub collect_accepts : (f : Kind → Functions) (s : State) (k : ℕ) (name : List ℕ) (span : Span) → (step f s k (line.Collect name span)).0.accepted ≡ s.accepted
collect_accepts f s k name span = go (changes_named f s k (line.Collect name span))
  where
    go : MayCollect s name span (step f s k (line.Collect name span)) → (step f s k (line.Collect name span)).0.accepted ≡ s.accepted
    go (inl same) = ap (λ (x : State). x.accepted) same
    go (inr adds) = ap (λ (x : State). x.accepted) adds
