-- A script in which honest reports are uploaded in the place of their measurements.
use Rattle.std.specs.Prelude.{◌≡◌, ◌⊎◌, ℕ, List}
use Rattle.vdaf_api.specs.Functions.{Functions}
use Rattle.vdaf_api.specs.declared.kind.Kind.{Kind}
use Rattle.dap_messages.specs.Messages.{report}
use Rattle.dap_messages.specs.declared.report.Report.{Report}
use Rattle.dap_tasks.specs.Task.{PlainTask}
use Rattle.dap_script.specs.declared.line.Line.{Line}
use Rattle.dap_script.specs.declared.line.Line.TheVariants as line
use Rattle.dap_model.specs.Uploads.{IsHonest}

-- The second line uploads the bytes of the honest report of what the first measures.
pub record UploadsIt (f : Kind → Functions) (tasks : List PlainTask) (first second : Line) : Type 0 where
  pub name : List ℕ
  pub id : List ℕ
  pub time : ℕ
  pub value : List ℕ
  pub seed : List ℕ
  pub made : Report
  pub honest : IsHonest f tasks name id time value seed made
  pub measured : first ≡ line.Measure name id time value seed
  pub uploaded : second ≡ line.Upload (report.spell made)

-- the second line is the first, or uploads what it measures
abbrev pub IsOrUploads : (Kind → Functions) → List PlainTask → Line → Line → Type 0
IsOrUploads f tasks first second = (second ≡ first) ⊎ UploadsIt f tasks first second
