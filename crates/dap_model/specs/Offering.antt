-- Which lines count for the limits of reports, in the words of what is judged.
use Rattle.std.specs.Prelude.{◌≡◌, ℕ, List, Some, None, Ok}
use Rattle.vdaf_api.specs.Functions.{Functions}
use Rattle.vdaf_api.specs.declared.kind.Kind.{Kind}
use Rattle.dap_messages.specs.Grammar.{whole}
use Rattle.dap_messages.specs.Messages.{report}
use Rattle.dap_messages.specs.declared.report.Report.{Report}
use Rattle.dap_seal.specs.Reports.{honest_report}
use Rattle.dap_tasks.specs.Task.{PlainTask}
use Rattle.dap_script.specs.declared.line.Line.{Line}
use Rattle.dap_script.specs.declared.line.Line.TheVariants as line
use Rattle.dap_model.specs.Limits.{report_offered}
use Rattle.dap_model.specs.State.{State, task_named}
use Rattle.dap_model.specs.Step.{offered, step}

-- The line brings the report to the known task: it measures, and the report is the honest one; or it uploads the
-- bytes of the report, which has the task's name.
abbrev pub Brings : (Kind → Functions) → List PlainTask → Line → PlainTask → Report → Type 0
Brings f tasks (line.Measure name id time value seed) t r =
    (task_named tasks name ≡ Some t) × (honest_report (f t.kind) t id time value seed ≡ Some r)
Brings f tasks (line.Upload bytes) t r = (task_named tasks r.name ≡ Some t) × (whole report bytes ≡ Ok r)
Brings f tasks line.Blank t r = ⊥
Brings f tasks (line.Task name kind min precision expires) t r = ⊥
Brings f tasks (line.Now moment) t r = ⊥
Brings f tasks (line.Collect name span) t r = ⊥
Brings f tasks (line.Restart node) t r = ⊥

-- The report that a line brings to a known task is judged as line k says, and it counts for the limits, whatever the
-- judgement is. Nothing else counts, and a line that counts for nothing accepts nothing.
pub record CountsWhatIsJudged (f : Kind → Functions) (s : State) (k : ℕ) (l : Line) : Type 0 where
  pub judged : (t : PlainTask) (r : Report) → Brings f s.tasks l t r → step f s k l ≡ offered s k t r
  pub counts : (t : PlainTask) (r : Report) → Brings f s.tasks l t r → report_offered f s.tasks l ≡ Some r
  pub only : (r : Report) → report_offered f s.tasks l ≡ Some r → (t : PlainTask) × Brings f s.tasks l t r
  pub nothing : report_offered f s.tasks l ≡ None → (step f s k l).0.accepted ≡ s.accepted
