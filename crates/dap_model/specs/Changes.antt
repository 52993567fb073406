-- What a line may change.
use Rattle.std.specs.Prelude.{◌≡◌, ◌⊎◌, ℕ, List, [], ◌∷◌, ◌++◌, Some, false}
use Rattle.std.specs.List.{list_any}
use Rattle.dap_bytes.specs.declared.span.Span.{Span}
use Rattle.dap_messages.specs.declared.report.Report.{Report}
use Rattle.dap_script.specs.declared.line.Line.{Line}
use Rattle.dap_script.specs.declared.line.Line.TheVariants as line
use Rattle.dap_messages.specs.Reports.{has_key}
use Rattle.dap_model.specs.State.{State, with_collected}
use Rattle.dap_model.specs.Step.{raised, report_in}

-- One report of this task, identifier and time is accepted after the others, and nothing else changes.
pub record AddsReport (old new : State) (task id : List ℕ) (time : ℕ) : Type 0 where
  pub report : Report
  pub of_task : report.name ≡ task
  pub of_id : report.id ≡ id
  pub at_time : report.time ≡ time
  pub grown : new ≡ record old { accepted = old.accepted ++ report ∷ [] }

-- The report that these bytes spell is accepted after the others, and nothing else changes.
pub record AddsUpload (old new : State) (bytes : List ℕ) : Type 0 where
  pub report : Report
  pub spelled : report_in bytes ≡ Some report
  pub grown : new ≡ record old { accepted = old.accepted ++ report ∷ [] }

-- This batch is collected after the others, and nothing else changes.
abbrev pub AddsBatch : State → State → List ℕ → Span → Type 0
AddsBatch old new task span = new ≡ with_collected old task span

-- A line changes nothing, or what it names.
abbrev pub ChangesNamed : State → State → Line → Type 0
ChangesNamed old new line.Blank = new ≡ old
ChangesNamed old new (line.Task name kind min precision expires) = new ≡ old
ChangesNamed old new (line.Now t) = new ≡ record old { moment = raised old.moment t }
ChangesNamed old new (line.Measure name id time value seed) = (new ≡ old) ⊎ AddsReport old new name id time
ChangesNamed old new (line.Upload bytes) = (new ≡ old) ⊎ AddsUpload old new bytes
ChangesNamed old new (line.Collect name span) = (new ≡ old) ⊎ AddsBatch old new name span
ChangesNamed old new (line.Restart node) = new ≡ old

-- No two of the reports have the same task and identifier.
abbrev pub AreDistinct : List Report → Type 0
AreDistinct [] = Unit {0}
AreDistinct (r ∷ more) = (list_any (has_key r.name r.id) more ≡ false) × AreDistinct more
