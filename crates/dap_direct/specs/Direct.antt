-- What the direct path keeps, as the plain state.
use Rattle.std.specs.Prelude.{◌≡◌, ℕ, ◌+◌, ◌*◌, ◌^◌, ◌<◌, ◌≤◌, List, length, ◌++◌, ◌∷◌, [], Option, Some, false}
use Rattle.std.specs.List.{find}
use Rattle.std.specs.Option.{option_to_list}
use Rattle.std.specs.Str.{bytes_eq}
use Rattle.dap_bytes.specs.declared.span.Span.{Span}
use Rattle.vdaf_api.specs.Functions.{Functions}
use Rattle.vdaf_api.specs.declared.kind.Kind.{Kind}
use Rattle.dap_messages.specs.declared.report.Report.{Report}
use Rattle.dap_messages.specs.declared.report.TheConstants.{MOST_REPORT}
use Rattle.dap_tasks.specs.Task.{PlainTask, has_name}
use Rattle.dap_script.specs.declared.line.Line.{Line}
use Rattle.dap_model.specs.Limits.{report_offered}
use Rattle.dap_model.specs.State.{State}
use Rattle.dap_model.specs.Step.{Outcome, collect_of, offered, report_in, step, upload_to}
use Rattle.dap_model.specs.declared.printed.Printed.{Printed}
use Rattle.dap_direct.specs.Offered.{with_report}
use Rattle.dap_direct.specs.Sums.{IsSummed}
use Rattle.dap_direct.specs.declared.state.Direct.{Direct}

-- the plain state, under the known tasks
abbrev pub state_of : List PlainTask → Direct → State
state_of tasks d = record {
  tasks = tasks;
  moment = d.moment;
  accepted = d.accepted;
  collected = d.collected.items;
}

-- Before line k no more reports were accepted, and no more were offered, than lines are behind; and none of them has more
-- bytes than a report may have.
pub record IsAt (k : ℕ) (d : Direct) : Type 0 where
  pub accepted : length d.accepted < k
  pub offered : d.offered.reports < k
  pub bytes : d.offered.bytes + MOST_REPORT ≤ MOST_REPORT * k

-- each bucket of the task has its sums
abbrev pub HasSums : (Kind → Functions) → PlainTask → Direct → Type 0
HasSums f task d = IsSummed f task d.accepted d.sums.items

-- each bucket of each known task has its sums
abbrev pub AreSummed : (Kind → Functions) → List PlainTask → Direct → Type 0
AreSummed f tasks d = (task : PlainTask) → find (has_name task.name) tasks ≡ Some task → HasSums f task d

-- the task's buckets have their sums, and those of other names have them as before
pub record KeepsSums (f : Kind → Functions) (task : PlainTask) (old new : Direct) : Type 0 where
  pub own : HasSums f task new
  pub others : (other : PlainTask) → bytes_eq other.name task.name ≡ false → HasSums f other old → HasSums f other new

-- the report stands behind the accepted ones, with the sums of its bucket, and nothing else changes
pub record AddsReport (f : Kind → Functions) (task : PlainTask) (report : Report) (old new : Direct) : Type 0 where
  pub accepted : new.accepted ≡ old.accepted ++ report ∷ []
  pub moment : new.moment ≡ old.moment
  pub collected : new.collected ≡ old.collected
  pub offered : new.offered ≡ old.offered
  pub sums : KeepsSums f task old new

-- ---- reports that are offered

-- The report is offered to the task by line k: the plain state changes and something is printed as by the plain step.
pub record Offers (f : Kind → Functions) (task : PlainTask) (k : ℕ) (report : Report)
    (old new : Direct) (printed : Option Printed) : Type 0 where
  pub outcome : (tasks : List PlainTask)
      → (let o : Outcome = (state_of tasks new, option_to_list printed) in o) ≡ offered (state_of tasks old) k task report
  pub sums : KeepsSums f task old new
  pub accepted : length new.accepted ≤ length old.accepted + 1
  pub counted : new.offered ≡ old.offered

-- The bytes are offered to the task by line k, and the report that they spell, if they spell one, is counted.
pub record Uploads (f : Kind → Functions) (task : PlainTask) (k : ℕ) (bytes : List ℕ)
    (old new : Direct) (printed : Option Printed) : Type 0 where
  pub outcome : (tasks : List PlainTask)
      → (let o : Outcome = (state_of tasks new, option_to_list printed) in o) ≡ upload_to (state_of tasks old) k bytes task
  pub sums : KeepsSums f task old new
  pub at : IsAt (k + 1) new
  pub counted : new.offered ≡ with_report (report_in bytes) old.offered

-- ---- collections

-- The task's batch is collected by line k: the plain state changes and something is printed as by the plain step, and the
-- reports and their sums stay.
pub record Collects (f : Kind → Functions) (task : PlainTask) (k : ℕ) (span : Span)
    (old new : Direct) (printed : Printed) : Type 0 where
  pub outcome : (tasks : List PlainTask)
      → (let o : Outcome = (state_of tasks new, printed ∷ []) in o) ≡ collect_of f (state_of tasks old) k span task
  pub accepted : new.accepted ≡ old.accepted
  pub sums : new.sums ≡ old.sums
  pub offered : new.offered ≡ old.offered

-- ---- lines

-- line k may be run
pub record MayRun (f : Kind → Functions) (tasks : List PlainTask) (k : ℕ) (d : Direct) : Type 0 where
  pub number : k ≤ 2 ^ 31
  pub at : IsAt k d
  pub sums : AreSummed f tasks d

-- Line k was run: the plain state changed and something is printed as by the plain step, each bucket has its sums, and the
-- report that the line offers, if it offers one, is counted.
pub record Runs (f : Kind → Functions) (tasks : List PlainTask) (k : ℕ) (l : Line)
    (old new : Direct) (printed : Option Printed) : Type 0 where
  pub outcome : (let o : Outcome = (state_of tasks new, option_to_list printed) in o) ≡ step f (state_of tasks old) k l
  pub at : IsAt (k + 1) new
  pub sums : AreSummed f tasks new
  pub counted : new.offered ≡ with_report (report_offered f tasks l) old.offered
