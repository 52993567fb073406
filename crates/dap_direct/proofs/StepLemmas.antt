-- What a line does, by what it offers.
use Rattle.std.proofs.Common.{◌≡◌, ℕ, ◌+◌, ◌≤◌, List, length, Some, sym, ap, subst, ◌∙◌, arith}
use Rattle.std.specs.Prelude.{IsTrue}
use Rattle.std.specs.List.{find}
use Rattle.std.specs.Option.{option_and_then, option_map_or}
use Rattle.dap_bytes.specs.declared.span.Span.{Span}
use Rattle.vdaf_api.specs.Functions.{Functions}
use Rattle.vdaf_api.specs.declared.kind.Kind.{Kind}
use Rattle.dap_messages.specs.MessageLaws.{report_lawful}
use Rattle.dap_messages.specs.Messages.{report}
use Rattle.dap_messages.specs.declared.report.Report.{Report}
use Rattle.dap_messages.specs.declared.report.TheConstants.{MOST_REPORT}
use Rattle.dap_seal.specs.Reports.{honest_report}
use Rattle.dap_tasks.specs.Task.{PlainTask, has_name}
use Rattle.dap_tasks.specs.declared.cause.Cause.TheVariants as cause
use Rattle.dap_script.specs.declared.line.Line.TheVariants as line
use Rattle.dap_model.specs.Limits.{report_offered}
use Rattle.dap_model.specs.State.{State}
use Rattle.dap_model.specs.Step.{collect_of, measure_of, name_in, offered, refused, report_in, step, upload_named, upload_to}
use Rattle.dap_model.specs.declared.printed.Printed.{Printed}
use Rattle.dap_direct.proofs.SummedLemmas.{same_sums}
use Rattle.dap_direct.specs.Direct.{Collects, IsAt, MayRun, Runs, state_of}
use Rattle.dap_direct.specs.Offered.{with_report}
use Rattle.dap_direct.specs.declared.offered.Offered.{Offered}
use Rattle.dap_direct.specs.declared.state.Direct.{Direct}

-- bytes are offered as their report
pub offered-upload : (s : State) (k : ℕ) (bytes : List ℕ) (task : PlainTask) (r : Report) → report_in bytes ≡ Some r → offered s k task r ≡ upload_to s k bytes task
offered-upload s k bytes task r read = sym (ap (λ o. option_map_or (offered s k task) o (refused s k cause.Form)) read)

-- a measurement is an upload to its task of the bytes of its report
pub measure-upload : (f : Kind → Functions) (s : State) (k : ℕ) (name id : List ℕ) (time : ℕ) (value seed bytes : List ℕ) (task : PlainTask) (r : Report)
    → find (has_name name) s.tasks ≡ Some task → honest_report (f task.kind) task id time value seed ≡ Some r → report_in bytes ≡ Some r
    → upload_to s k bytes task ≡ step f s k (line.Measure name id time value seed)
measure-upload f s k name id time value seed bytes task r known made read =
    ap (λ o. option_map_or (offered s k task) o (refused s k cause.Form)) read
    ∙ sym (ap (λ o. option_map_or (measure_of f s k id time value seed) o (refused s k cause.Task)) known
    ∙ ap (λ o. option_map_or (offered s k task) o (refused s k cause.Value)) made)

pub measure-offers : (f : Kind → Functions) (tasks : List PlainTask) (name id : List ℕ) (time : ℕ) (value seed bytes : List ℕ) (task : PlainTask) (r : Report)
    → find (has_name name) tasks ≡ Some task → honest_report (f task.kind) task id time value seed ≡ Some r → report_in bytes ≡ Some r
    → report_in bytes ≡ report_offered f tasks (line.Measure name id time value seed)
measure-offers f tasks name id time value seed bytes task r known made read =
    read ∙ sym made ∙ sym (ap (λ o. option_and_then (λ (t : PlainTask). honest_report (f t.kind) t id time value seed) o) known)

-- an upload is one to the task whose name it begins with
pub upload-upload : (f : Kind → Functions) (s : State) (k : ℕ) (bytes name : List ℕ) (task : PlainTask) → name_in bytes ≡ Some name → find (has_name name) s.tasks ≡ Some task
    → upload_to s k bytes task ≡ step f s k (line.Upload bytes)
upload-upload f s k bytes name task named known =
    sym (ap (λ o. option_map_or (upload_named s k bytes) o (refused s k cause.Form)) named
    ∙ ap (λ o. option_map_or (upload_to s k bytes) o (refused s k cause.Task)) known)

pub upload-offers : (f : Kind → Functions) (tasks : List PlainTask) (bytes name : List ℕ) (task : PlainTask) → name_in bytes ≡ Some name → find (has_name name) tasks ≡ Some task
    → report_in bytes ≡ report_offered f tasks (line.Upload bytes)
upload-offers f tasks bytes name task named known =
    sym (ap (λ o. option_and_then (λ (n : List ℕ). option_and_then (λ (t : PlainTask). report_in bytes) (find (has_name n) tasks)) o) named
    ∙ ap (λ o. option_and_then (λ (t : PlainTask). report_in bytes) o) known)

-- ---- how many reports there are

-- one more report of so many bytes
pub at_next : (k : ℕ) (old new : Direct) (o : Offered) (n : ℕ) → IsAt k old → n ≤ MOST_REPORT
    → o ≡ record { reports = old.offered.reports + 1; bytes = old.offered.bytes + n }
    → length new.accepted ≤ length old.accepted + 1 → new.offered ≡ o → IsAt (k + 1) new
at_next k old new o n at few is accepted same =
    let reports : new.offered.reports ≡ old.offered.reports + 1 = ap (λ (x : Offered). x.reports) (same ∙ is) in
    let bytes : new.offered.bytes ≡ old.offered.bytes + n = ap (λ (x : Offered). x.bytes) (same ∙ is) in
    record {
      accepted = omega (arith, accepted, at.accepted);
      offered = omega (arith, reports, at.offered);
      bytes = omega (arith, bytes, at.bytes, few);
    }

-- no report has more bytes
pub few_bytes : (r : Report) (bytes : List ℕ) → IsTrue (report.allowed r) → bytes ≡ report.spell r → length bytes ≤ MOST_REPORT
few_bytes r bytes allowed is = subst (λ (l : List ℕ). length l ≤ MOST_REPORT) (sym is) (report_lawful.within r allowed)

-- the report is counted by its bytes
pub counted_upload : (o : Offered) (bytes : List ℕ) (r : Report) → bytes ≡ report.spell r
    → (let one : Offered = record { reports = o.reports + 1; bytes = o.bytes + length bytes } in one) ≡ with_report (Some r) o
counted_upload o bytes r is = ap (λ (l : List ℕ). let one : Offered = record { reports = o.reports + 1; bytes = o.bytes + length l } in one) is

-- a collection leaves the reports and their sums
pub collects : (f : Kind → Functions) (tasks : List PlainTask) (k : ℕ) (name : List ℕ) (span : Span) (task : PlainTask) (old new : Direct) (printed : Printed)
    → find (has_name name) tasks ≡ Some task → MayRun f tasks k old → Collects f task k span old new printed
    → Runs f tasks k (line.Collect name span) old new (Some printed)
collects f tasks k name span task old new printed found may is =
    record {
      outcome = is.outcome tasks ∙ sym (ap (λ o. option_map_or (collect_of f (state_of tasks old) k span) o (refused (state_of tasks old) k cause.Task)) found);
      at = record {
        accepted = omega (arith, may.at.accepted, ap length is.accepted);
        offered = omega (arith, may.at.offered, ap (λ (o : Offered). o.reports) is.offered);
        bytes = omega (arith, may.at.bytes, ap (λ (o : Offered). o.bytes) is.offered);
      };
      sums = same_sums f tasks old new is.accepted is.sums may.sums;
      counted = is.offered;
    }
