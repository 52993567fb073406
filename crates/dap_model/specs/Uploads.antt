-- What a measurement and an upload come to: their causes before the judgement.
use Rattle.std.specs.Prelude.{◌≡◌, ◌≤◌, ℕ, List, [], ◌∷◌, ◌++◌, length, Some, None, Ok, Err}
use Rattle.dap_bytes.specs.Name.{IsName}
use Rattle.dap_bytes.specs.declared.limits.TheConstants.{LATEST_TIME}
use Rattle.vdaf_api.specs.Functions.{Functions}
use Rattle.vdaf_api.specs.Kind.{IsKind}
use Rattle.vdaf_api.specs.declared.kind.Kind.{Kind}
use Rattle.dap_messages.specs.Grammar.{whole}
use Rattle.dap_messages.specs.Messages.{report}
use Rattle.dap_messages.specs.declared.report.Report.{Report}
use Rattle.dap_seal.specs.Reports.{honest_report}
use Rattle.dap_tasks.specs.Task.{PlainTask}
use Rattle.dap_tasks.specs.declared.cause.Cause.TheVariants as cause
use Rattle.dap_model.specs.State.{State, task_named}
use Rattle.dap_model.specs.Step.{Outcome, offered, refused}
use Rattle.dap_model.specs.declared.printed.Printed.TheVariants.{Refused}

-- The honest report of a measurement of a known task, each within its range.
pub record IsHonest (f : Kind → Functions) (tasks : List PlainTask)
    (name id : List ℕ) (time : ℕ) (value seed : List ℕ) (r : Report) : Type 0 where
  pub task : PlainTask
  pub known : task_named tasks name ≡ Some task
  pub kind : IsKind task.kind
  pub is_name : IsName name
  pub id_bytes : length id ≡ 16
  pub is_time : time ≤ LATEST_TIME
  pub made : honest_report (f task.kind) task id time value seed ≡ Some r

-- What line k comes to, which measures: it is refused `task` where the name is no task's, else `value` where sharding
-- has no value; else the honest report is offered to the task.
pub record MeasuresByTheFirstCause (f : Kind → Functions) (s : State) (k : ℕ)
    (name id : List ℕ) (time : ℕ) (m seed : List ℕ) (after : Outcome) : Type 0 where
  pub task : task_named s.tasks name ≡ None → after ≡ refused s k cause.Task
  pub value : (t : PlainTask) → task_named s.tasks name ≡ Some t → (f t.kind).shard id m seed ≡ None
      → after ≡ refused s k cause.Value
  pub else_offered : (t : PlainTask) (r : Report) → task_named s.tasks name ≡ Some t
      → honest_report (f t.kind) t id time m seed ≡ Some r → after ≡ offered s k t r

-- The bytes begin with a whole name field: a name's length, and the name.
pub record BeginsWithName (bytes name : List ℕ) : Type 0 where
  pub is_name : IsName name
  pub rest : List ℕ
  pub spelled : bytes ≡ length name ∷ name ++ rest

-- The bytes begin with a whole name field, whose name is that of no task.
pub record NamesNoTask (tasks : List PlainTask) (bytes : List ℕ) : Type 0 where
  pub name : List ℕ
  pub begins : BeginsWithName bytes name
  pub unknown : task_named tasks name ≡ None

-- the bytes spell no report
abbrev pub IsNoReport : List ℕ → Type 0
IsNoReport bytes = (at : ℕ) × (whole report bytes ≡ Err at)

-- What line k comes to, which uploads the bytes: it is refused `task` exactly where they name no task, else `form`
-- exactly where they are no report; else the report, which begins with its task's name, is offered to this task.
pub record GoesByTheFirstCause (s : State) (k : ℕ) (bytes : List ℕ) (after : Outcome) : Type 0 where
  pub task : NamesNoTask s.tasks bytes → after ≡ refused s k cause.Task
  pub task_only : after.1 ≡ Refused k cause.Task ∷ [] → NamesNoTask s.tasks bytes
  pub form : (NamesNoTask s.tasks bytes → ⊥) → IsNoReport bytes → after ≡ refused s k cause.Form
  pub form_only : after.1 ≡ Refused k cause.Form ∷ [] → (NamesNoTask s.tasks bytes → ⊥) × IsNoReport bytes
  pub named : (r : Report) → whole report bytes ≡ Ok r → BeginsWithName bytes r.name
  pub else_offered : (r : Report) (t : PlainTask) → whole report bytes ≡ Ok r → task_named s.tasks r.name ≡ Some t
      → after ≡ offered s k t r
