use Rattle.dap_model.proofs.ChangeLaws.{changes_named}
use Rattle.dap_model.proofs.laws.lines_change_what_they_name.Goals as goal

pub returns : goal.returns
returns c f state number line = changes_named f state number line
