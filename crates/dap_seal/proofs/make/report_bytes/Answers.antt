use Rattle.std.proofs.Common.{◌≡◌, ℕ, ◌≤◌, List, length, sym, ap, subst, arith}
use Rattle.std.proofs.lemmas.Result.{IfOk-weaker}
use Rattle.std.specs.Prelude.{IsTrue}
use Rattle.dap_bytes.specs.Name.{IsName}
use Rattle.dap_messages.specs.declared.report.Report.{Report}
use Rattle.dap_messages.specs.Messages.{report}
use Rattle.dap_tasks.specs.Task.{PlainTask}
use Rattle.vdaf_api.specs.Answered.{parts_of}
use Rattle.vdaf_api.specs.Functions.{Parts}
use Rattle.vdaf_api.specs.Promises.{PartsAreShort}
use Rattle.dap_seal.specs.Reports.{report_of}
use Rattle.dap_seal.proofs.Honest.{honest-allowed}
use Rattle.dap_seal.proofs.make.report_bytes.Goals as goal

-- the report that was made is one that has a spelling
made-allowed : (t : PlainTask) (id : List ℕ) (time : ℕ) (parts : Parts) (made : Report) → made ≡ report_of t id time parts → IsName made.name
    → length id ≡ 16 → time ≤ 999999999999999999 → PartsAreShort parts → IsTrue (report.allowed (report_of t id time parts))
made-allowed t id time parts made is name is_id in_time short = honest-allowed t id time parts (subst IsName (ap (λ (r : Report). r.name) is) name) is_id in_time short

pub write_report-requires : goal.write_report-requires
write_report-requires c =
    let is = c.in_ok-made.ensures.report in
    subst (λ (r : Report). IsTrue (report.allowed r)) (sym is)
    (made-allowed c.args.task.now c.args.id.now c.args.time (parts_of c.args.shares) c.in_ok-made.made is c.in_ok-made.ensures.name (omega arith) c.requires.time c.requires.short)

pub returns-clause-allowed : goal.returns-clause-allowed
returns-clause-allowed c =
    let allowed = made-allowed c.args.task.now c.args.id.now c.args.time (parts_of c.args.shares) c.in_ok-made.made c.in_ok-made.ensures.report c.in_ok-made.ensures.name (omega arith) c.requires.time c.requires.short in
    IfOk-weaker c.write_report.result _ _ (λ v spelled. allowed) c.write_report.ensures
