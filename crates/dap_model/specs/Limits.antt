-- The limits of a run: how many reports it is offered, and how many bytes they have.
use Rattle.std.specs.Prelude.{ℕ, ◌+◌, ◌-◌, List, [], ◌∷◌, ◌++◌, length, sum, take, map, Bool, true, false, ◌||◌, nat_lt, if◌then◌else◌, Option, Some, None}
use Rattle.std.specs.List.{list_any}
use Rattle.std.specs.Option.{option_and_then, option_map_or, option_to_list}
use Rattle.vdaf_api.specs.Functions.{Functions}
use Rattle.vdaf_api.specs.declared.kind.Kind.{Kind}
use Rattle.dap_messages.specs.Messages.{report}
use Rattle.dap_messages.specs.declared.report.Report.{Report}
use Rattle.dap_seal.specs.Reports.{honest_report}
use Rattle.dap_tasks.specs.Task.{PlainTask}
use Rattle.dap_script.specs.Script.{is_among, task_name}
use Rattle.dap_script.specs.declared.line.Line.{Line}
use Rattle.dap_script.specs.declared.line.Line.TheVariants as line
use Rattle.dap_model.specs.Printed.{text_of}
use Rattle.dap_model.specs.Run.{opening_of, printed_from}
use Rattle.dap_model.specs.State.{State, names_of, task_named}
use Rattle.dap_model.specs.Step.{name_in, report_in}
use Rattle.dap_model.specs.declared.limits.Limits.{Limits}

-- The report that a line offers: that of a measurement of a known task with shares, or that of uploaded bytes which
-- spell one of a known task. It is offered whether or not it is accepted, and again with each repeat.
abbrev pub report_offered : (Kind → Functions) → List PlainTask → Line → Option Report
report_offered f tasks (line.Measure name id time value seed) =
    option_and_then (λ task. honest_report (f task.kind) task id time value seed) (task_named tasks name)
report_offered f tasks (line.Upload bytes) =
    option_and_then (λ name. option_and_then (λ task. report_in bytes) (task_named tasks name)) (name_in bytes)
report_offered f tasks line.Blank = None
report_offered f tasks (line.Task name kind min precision expires) = None
report_offered f tasks (line.Now t) = None
report_offered f tasks (line.Collect name span) = None
report_offered f tasks (line.Restart node) = None

-- the reports that lines offer, in order
abbrev pub reports_offered : (Kind → Functions) → List PlainTask → List Line → List Report
reports_offered f tasks [] = []
reports_offered f tasks (l ∷ more) = option_to_list (report_offered f tasks l) ++ reports_offered f tasks more

-- how many bytes reports have together
abbrev pub bytes_in : List Report → ℕ
bytes_in reports = sum (map (λ r. length (report.spell r)) reports)

-- the number of the limit that these reports pass: 2 is their number, 3 that of their bytes
abbrev pub limit_passed : Limits → List Report → Option ℕ
limit_passed limits reports =
    if nat_lt limits.reports (length reports) then Some 2
    else (if nat_lt limits.bytes (bytes_in reports) then Some 3
    else None)

-- a line, counted from 1, and the limit that is passed with it
pub record Passed : Type 0 where
  pub line : ℕ
  pub limit : ℕ

-- the first of the further lines with which these and it pass a limit
abbrev pub passed_after : (Kind → Functions) → Limits → List PlainTask → List Line → List Line → Option Passed
passed_after f limits tasks done [] = None
passed_after f limits tasks done (l ∷ more) =
    let lines = done ++ l ∷ [] in
    option_map_or (λ limit. Some (record { line = length lines; limit = limit }))
    (limit_passed limits (reports_offered f tasks lines)) (passed_after f limits tasks lines more)

-- the first line with which a script that begins in this state passes a limit
abbrev pub passed_in : (Kind → Functions) → Limits → State → List Line → Option Passed
passed_in f limits opened lines = passed_after f limits (opening_of opened lines).tasks [] lines

-- ---- how many tasks are known, by their names

-- how many different names stand among these that aren't known: each is counted where it stands first
abbrev pub count_new : List (List ℕ) → List (List ℕ) → ℕ
count_new known [] = 0
count_new known (name ∷ more) = (if is_among known name then 0 else 1) + count_new (known ++ name ∷ []) more

-- how many different names these are
abbrev pub count_names : List (List ℕ) → ℕ
count_names names = count_new [] names

-- the first line with which more names are known than so many, where these are known with line n and these lines follow
abbrev pub full_from : ℕ → List (List ℕ) → ℕ → List Line → Option ℕ
full_from most names n [] = if nat_lt most (count_names names) then Some n else None
full_from most names n (l ∷ more) =
    if nat_lt most (count_names names) then Some n else full_from most (names ++ task_name l) (n + 1) more

-- The first line with which a script that begins in this state knows more tasks than so many, counted from 1; or 0 where
-- more are known before it.
abbrev pub full_line_of : ℕ → State → List Line → Option ℕ
full_line_of most opened lines = full_from most (names_of opened.tasks) 0 lines

-- ---- what is printed before a limit is passed

-- the line ends a segment, of which the printed lines are told together
abbrev pub ends_segment : Line → Bool
ends_segment (line.Collect name span) = true
ends_segment (line.Restart node) = true
ends_segment line.Blank = false
ends_segment (line.Task name kind min precision expires) = false
ends_segment (line.Now t) = false
ends_segment (line.Measure name id time value seed) = false
ends_segment (line.Upload bytes) = false

-- the lines up to the last that ends a segment
abbrev pub whole_segments : List Line → List Line
whole_segments [] = []
whole_segments (l ∷ more) = if ends_segment l || list_any ends_segment more then (l ∷ whole_segments more) else []

-- what the whole segments before a line print, where lines count from 1
abbrev pub text_before : (Kind → Functions) → State → List Line → ℕ → List ℕ
text_before f opened lines number =
    text_of (printed_from f (opening_of opened lines) 1 (whole_segments (take (number - 1) lines)))
