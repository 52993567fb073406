use Rattle.dap_model.proofs.Fronts.{tells-segments}
use Rattle.dap_model.proofs.laws.whole_segments_are_told.Goals as goal

pub returns : goal.returns
returns c f opened lines number = tells-segments f opened lines number
