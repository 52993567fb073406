use Rattle.dap_model.proofs.Fronts.{segments-whole}
use Rattle.dap_model.proofs.laws.segments_are_whole.Goals as goal

pub returns : goal.returns
returns c lines = segments-whole lines
