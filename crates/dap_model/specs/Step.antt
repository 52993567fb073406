-- The plain step: what a line changes, and what it prints.
use Rattle.std.specs.Prelude.{ℕ, List, [], ◌∷◌, ◌++◌, length, take, not, nat_le, max, if◌then◌else◌, Option, Some, None}
use Rattle.std.specs.Option.{option_map_or}
use Rattle.std.specs.Result.{result_ok}
use Rattle.dap_bytes.specs.Name.{name_of}
use Rattle.dap_bytes.specs.Spans.{passes_start}
use Rattle.dap_bytes.specs.declared.span.Span.{Span}
use Rattle.vdaf_api.specs.Functions.{Functions}
use Rattle.vdaf_api.specs.Totals.{total_numbers}
use Rattle.vdaf_api.specs.declared.kind.Kind.{Kind}
use Rattle.dap_batch.specs.Group.{batch_start}
use Rattle.dap_messages.specs.Grammar.{whole}
use Rattle.dap_messages.specs.Messages.{report}
use Rattle.dap_messages.specs.Reports.{known_in}
use Rattle.dap_messages.specs.declared.report.Report.{Report}
use Rattle.dap_seal.specs.Reports.{honest_report}
use Rattle.dap_tasks.specs.Judged.{judged}
use Rattle.dap_tasks.specs.Task.{PlainTask}
use Rattle.dap_tasks.specs.declared.cause.Cause.{Cause}
use Rattle.dap_tasks.specs.declared.cause.Cause.TheVariants as cause
use Rattle.dap_tasks.specs.declared.cause.Judged.{Judged}
use Rattle.dap_tasks.specs.declared.cause.Judged.TheVariants.{Again, Barred, Added}
use Rattle.dap_script.specs.declared.line.Line.{Line}
use Rattle.dap_script.specs.declared.line.Line.TheVariants as line
use Rattle.dap_model.specs.State.{State, batch_contents, batch_rejected, earliest, is_closed, is_collected, sharing, task_named, with_collected}
use Rattle.dap_model.specs.declared.printed.Printed.{Printed}
use Rattle.dap_model.specs.declared.printed.Printed.TheVariants.{Collected, Small, Refused, Overlap}

-- the state after a line, and what the line prints
abbrev pub Outcome : Type 0
Outcome = State × List Printed

-- the line is refused and changes nothing
abbrev pub refused : State → ℕ → Cause → Outcome
refused s k why = (s, Refused k why ∷ [])

-- ---- reports

-- what follows from the judgement of a report
abbrev pub after_judgement : State → ℕ → Report → Judged → Outcome
after_judgement s k new Again = (s, [])
after_judgement s k new (Barred why) = refused s k why
after_judgement s k new Added = (record s { accepted = s.accepted ++ new ∷ [] }, [])

-- what a report of the task comes to
abbrev pub judgement : State → PlainTask → Report → Judged
judgement s task new =
    let collected = is_closed s.collected new.name task.precision (batch_start new.time task.precision) in
    judged (known_in s.accepted new.name new.id) s.moment task.expires collected (report.spell new) new.time

-- a report of the task is offered by line k
abbrev pub offered : State → ℕ → PlainTask → Report → Outcome
offered s k task new = after_judgement s k new (judgement s task new)

-- the honest report of a measurement of the task is offered, if the measurement has shares
abbrev pub measure_of : (Kind → Functions) → State → ℕ → List ℕ → ℕ → List ℕ → List ℕ → PlainTask → Outcome
measure_of f s k id time value seed task =
    option_map_or (offered s k task) (honest_report (f task.kind) task id time value seed) (refused s k cause.Value)

-- the name that bytes begin with, after its length
abbrev pub name_in : List ℕ → Option (List ℕ)
name_in [] = None
name_in (size ∷ rest) = if nat_le size (length rest) then name_of (take size rest) else None

-- the report that bytes spell
abbrev pub report_in : List ℕ → Option Report
report_in bytes = result_ok (whole report bytes)

-- bytes are offered to the task, if they are a report
abbrev pub upload_to : State → ℕ → List ℕ → PlainTask → Outcome
upload_to s k bytes task = option_map_or (offered s k task) (report_in bytes) (refused s k cause.Form)

-- bytes that begin with this name are offered to its task
abbrev pub upload_named : State → ℕ → List ℕ → List ℕ → Outcome
upload_named s k bytes name = option_map_or (upload_to s k bytes) (task_named s.tasks name) (refused s k cause.Task)

-- bytes are offered, if they begin with a name
abbrev pub upload_of : State → ℕ → List ℕ → Outcome
upload_of s k bytes = option_map_or (upload_named s k bytes) (name_in bytes) (refused s k cause.Form)

-- ---- collections

-- how many of the reports of the task's batch have a content
abbrev pub reports_with_content : (Kind → Functions) → State → PlainTask → Span → ℕ
reports_with_content f s task span = length (batch_contents f task span s.accepted)

-- the printed line of a collected batch: its counts, and the answer of the sum of its contents
abbrev pub collection_of : (Kind → Functions) → State → PlainTask → Span → Printed
collection_of f s task span =
    Collected task.name span (record {
      reports = reports_with_content f s task span;
      rejected = batch_rejected f task span s.accepted;
      answer = (f task.kind).answer (total_numbers (f task.kind).space (batch_contents f task span s.accepted));
    })

-- a batch that wasn't collected, and of which no bucket was: it's collected if it has the reports for it
abbrev pub collect_new : (Kind → Functions) → State → Span → PlainTask → Outcome
collect_new f s span task =
    if nat_le task.min (reports_with_content f s task span)
    then (with_collected s task.name span, collection_of f s task span ∷ [])
    else (s, Small task.name span (reports_with_content f s task span) ∷ [])

-- the collected batch is named that shares a bucket with this one, the one that starts first, if there is one
abbrev pub collect_apart : (Kind → Functions) → State → ℕ → Span → PlainTask → Outcome
collect_apart f s k span task =
    option_map_or (λ other. (s, Overlap k other ∷ [])) (earliest (sharing task span s.collected))
    (collect_new f s span task)

-- the task's batch is printed if it was collected, else it's collected if no bucket of it was and it has the reports
abbrev pub collect_of : (Kind → Functions) → State → ℕ → Span → PlainTask → Outcome
collect_of f s k span task =
    if not (passes_start span task.precision) then refused s k cause.Start
    else (if is_collected s.collected task.name span then (s, collection_of f s task span ∷ [])
    else collect_apart f s k span task)

-- ---- lines

-- the greater of the moment, where one is known, and a time
abbrev pub raised : Option ℕ → ℕ → Option ℕ
raised moment t = Some (option_map_or (max t) moment t)

-- what line k does
abbrev pub step : (Kind → Functions) → State → ℕ → Line → Outcome
step f s k line.Blank = (s, [])
step f s k (line.Task name kind min precision expires) = (s, [])
step f s k (line.Now t) = (record s { moment = raised s.moment t }, [])
step f s k (line.Measure name id time value seed) =
    option_map_or (measure_of f s k id time value seed) (task_named s.tasks name) (refused s k cause.Task)
step f s k (line.Upload bytes) = upload_of s k bytes
step f s k (line.Collect name span) =
    option_map_or (collect_of f s k span) (task_named s.tasks name) (refused s k cause.Task)
step f s k (line.Restart node) = (s, [])
