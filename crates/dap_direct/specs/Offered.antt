-- The reports that were offered.
use Rattle.std.specs.Prelude.{◌≡◌, ◌+◌, List, length, Option, Some, None}
use Rattle.dap_messages.specs.Messages.{report}
use Rattle.dap_messages.specs.declared.report.Report.{Report}
use Rattle.dap_model.specs.Limits.{bytes_in}
use Rattle.dap_direct.specs.declared.offered.Offered.{Offered}

-- the number of these reports, and that of their bytes
pub record AreOffered (offered : List Report) (o : Offered) : Type 0 where
  pub reports : o.reports ≡ length offered
  pub bytes : o.bytes ≡ bytes_in offered

-- both numbers with one more report, if there is one
abbrev pub with_report : Option Report → Offered → Offered
with_report None o = o
with_report (Some r) o = record { reports = o.reports + 1; bytes = o.bytes + length (report.spell r) }
