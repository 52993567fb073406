use Rattle.dap_model.proofs.WholeLaws.{accepted-few}
use Rattle.dap_model.proofs.whole.accepted_reports_were_offered.Goals as goal

pub returns : goal.returns
returns c f state number lines = accepted-few f state number lines
