use Rattle.dap_model.proofs.Fronts.{text_before-front}
use Rattle.dap_model.proofs.laws.segments_are_a_front.Goals as goal

pub returns : goal.returns
returns c f opened lines number = text_before-front f opened lines number
