-- What a script prints where it collects a batch of honest fair reports.
use Rattle.std.specs.Prelude.{◌≡◌, ℕ, List, ◌∷◌, ◌++◌, length}
use Rattle.dap_bytes.specs.declared.span.Span.{Span}
use Rattle.prio3_kinds.specs.Kinds.{functions_of_kind}
use Rattle.prio3_kinds.specs.WholeNumbers.{whole_answer}
use Rattle.dap_tasks.specs.Task.{PlainTask}
use Rattle.dap_script.specs.declared.line.Line.{Line}
use Rattle.dap_script.specs.declared.line.Line.TheVariants as line
use Rattle.dap_model.specs.Printed.{spelling, text_of}
use Rattle.dap_model.specs.Run.{opening_of, printed_from}
use Rattle.dap_model.specs.State.{State, opening}
use Rattle.dap_model.specs.WholeLines.{state_before}
use Rattle.dap_model.specs.declared.printed.Printed.{Printed}
use Rattle.dap_model.specs.declared.printed.Printed.TheVariants.{Collected}

-- the state that the lines before a collection come to, in a run with these given tasks
abbrev pub reached : List PlainTask → List Line → List ℕ → Span → List Line → State
reached given before name span behind =
    state_before functions_of_kind (opening given) before (line.Collect name span) behind

-- what the lines before a collection print, in a run with these given tasks
abbrev pub printed_before : List PlainTask → List Line → List ℕ → Span → List Line → List Printed
printed_before given before name span behind =
    printed_from functions_of_kind (opening_of (opening given) (before ++ line.Collect name span ∷ behind)) 1 before

-- the line of a batch of the task with a report for each of these measurements, none rejected, and their answer in whole
-- numbers
abbrev pub sum_line : PlainTask → List ℕ → Span → List (List ℕ) → Printed
sum_line t name span measurements =
    let answer = whole_answer t.kind measurements in
    Collected name span (record { reports = length measurements; rejected = 0; answer = answer })

-- The text has this line behind what the lines before it print.
pub record HasLine (text : List ℕ) (before : List Printed) (printed : Printed) : Type 0 where
  pub rest : List ℕ
  pub is : text ≡ text_of before ++ spelling printed ++ rest
