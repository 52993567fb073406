-- Where the limits of a run are passed, in the numbers of its lines.
use Rattle.std.specs.Prelude.{◌≡◌, ◌⊎◌, ◌<◌, ◌≤◌, ℕ, List, ◌++◌, length, take, Some, None}
use Rattle.vdaf_api.specs.Functions.{Functions}
use Rattle.vdaf_api.specs.declared.kind.Kind.{Kind}
use Rattle.dap_messages.specs.declared.report.Report.{Report}
use Rattle.dap_script.specs.Script.{task_names}
use Rattle.dap_script.specs.declared.line.Line.{Line}
use Rattle.dap_model.specs.Limits.{Passed, bytes_in, count_names, full_line_of, passed_in, reports_offered}
use Rattle.dap_model.specs.Run.{opening_of}
use Rattle.dap_model.specs.State.{State, names_of}
use Rattle.dap_model.specs.declared.limits.Limits.{Limits}

-- these reports pass no limit
pub record AreWithin (limits : Limits) (reports : List Report) : Type 0 where
  pub few : length reports ≤ limits.reports
  pub small : bytes_in reports ≤ limits.bytes

-- these reports pass the limit of this number, and 2 where they pass both
abbrev pub Pass : Limits → List Report → ℕ → Type 0
Pass limits reports limit =
    ((limit ≡ 2) × (limits.reports < length reports))
    ⊎ ((limit ≡ 3) × (length reports ≤ limits.reports) × (limits.bytes < bytes_in reports))

-- the reports that the first n lines of a script offer which begins in this state
abbrev pub offered_by : (Kind → Functions) → State → List Line → ℕ → List Report
offered_by f opened lines n = reports_offered f (opening_of opened lines).tasks (take n lines)

-- The line is the first with which a limit is passed, and the limit is the first of those that are passed with it.
pub record IsFirstPassed (f : Kind → Functions) (limits : Limits)
    (opened : State) (lines : List Line) (p : Passed) : Type 0 where
  pub in_script : p.line ≤ length lines
  pub before : (n : ℕ) → n < p.line → AreWithin limits (offered_by f opened lines n)
  pub passes : Pass limits (offered_by f opened lines p.line) p.limit

-- What is told of the first passed limit is exact: there is one exactly where the whole script passes one.
pub record IsExact (f : Kind → Functions) (limits : Limits) (opened : State) (lines : List Line) : Type 0 where
  pub none : passed_in f limits opened lines ≡ None → AreWithin limits (offered_by f opened lines (length lines))
  pub within : AreWithin limits (offered_by f opened lines (length lines)) → passed_in f limits opened lines ≡ None
  pub first : (p : Passed) → passed_in f limits opened lines ≡ Some p → IsFirstPassed f limits opened lines p

-- ---- how many tasks are known

-- how many names the tasks have that are known before a script, and those of its first n lines
abbrev pub names_by : State → List Line → ℕ → ℕ
names_by opened lines n = count_names (names_of opened.tasks ++ task_names (take n lines))

-- With this line more tasks are known than so many, and with no line before it; 0 stands for those known before the script.
pub record IsFull (most : ℕ) (opened : State) (lines : List Line) (line : ℕ) : Type 0 where
  pub in_script : line ≤ length lines
  pub before : (n : ℕ) → n < line → names_by opened lines n ≤ most
  pub full : most < names_by opened lines line

-- What is told of the line with which too many tasks are known is exact.
pub record IsFullExact (most : ℕ) (opened : State) (lines : List Line) : Type 0 where
  pub none : full_line_of most opened lines ≡ None → names_by opened lines (length lines) ≤ most
  pub within : names_by opened lines (length lines) ≤ most → full_line_of most opened lines ≡ None
  pub first : (line : ℕ) → full_line_of most opened lines ≡ Some line → IsFull most opened lines line
