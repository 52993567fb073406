use Rattle.std.proofs.Common.{◌∙◌, sym}
use Rattle.dap_messages.specs.ReportLaws.{has_fields_of-is, same_report-Decides}
use Rattle.dap_messages.proofs.report.Report.is_same.Goals as goal

pub returns-clause-bytes : goal.returns-clause-bytes
returns-clause-bytes c = c.has_fields_of.ensures ∙ has_fields_of-is c.args.self.now c.args.other.now c.requires.here c.requires.there

pub returns-clause-equal : goal.returns-clause-equal
returns-clause-equal c =
    let is = c.has_fields_of.ensures ∙ has_fields_of-is c.args.self.now c.args.other.now c.requires.here c.requires.there in
    let decides = same_report-Decides c.args.self.now c.args.other.now c.requires.here c.requires.there in
    (λ e. decides.0 (sym is ∙ e), λ e. is ∙ decides.1 e)
