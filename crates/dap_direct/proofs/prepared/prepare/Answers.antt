use Rattle.std.proofs.Common.{◌≡◌, rules}
use Rattle.dap_seal.specs.Reports.{opened_report, verdict_of}
use Rattle.vdaf_api.specs.Functions.{Functions}
use Rattle.vdaf_api.specs.Verdict.{Opened, ok}
use Rattle.vdaf_api.specs.VerdictLaws.{ok-outs}
use Rattle.dap_direct.proofs.prepared.prepare.Goals as goal

pub returns-clause-outs : goal.returns-clause-outs
returns-clause-outs g c =
    let f : Functions = g.V.Vdaf.functions c.args.vdaf.now in
    let is : verdict_of f c.args.task.now c.args.report.now ≡ ok c.in-Some-2.leader.items c.in-Some-3.helper.items = search rules in
    ok-outs (g.met.V.Vdaf.laws c.args.vdaf.now) (opened_report c.args.task.now c.args.report.now) c.in-Some-2.leader.items c.in-Some-3.helper.items is
