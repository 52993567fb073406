use Rattle.std.proofs.Common.{Option, sym, ap, subst}
use Rattle.std.specs.Prelude.{IsTrue, IfSome}
use Rattle.std.specs.Option.{option_map}
use Rattle.dap_messages.specs.declared.report.Report.{Report}
use Rattle.dap_messages.specs.Messages.{report}
use Rattle.vdaf_api.specs.Answered.{parts_of}
use Rattle.dap_seal.specs.Reports.{report_of}
use Rattle.dap_seal.proofs.make.make_list_report.Goals as goal

pub report_bytes-requires-clause-short : goal.report_bytes-requires-clause-short
report_bytes-requires-clause-short g c =
    (g.met.V.Vdaf.laws c.args.vdaf.now).parts c.args.id.now c.args.m.now c.args.seed.now (parts_of c.in_ok-shares.shares) c.in_ok-shares.ensures

pub returns-clause-allowed : goal.returns-clause-allowed
returns-clause-allowed g c =
    subst (λ (o : Option Report). IfSome o (λ r. IsTrue (report.allowed r)))
    (sym (ap (option_map (report_of c.args.task.now c.args.id.now c.args.time)) c.in_ok-shares.ensures)) c.in_ok-report_bytes.ensures.allowed
