use Rattle.dap_model.proofs.TakenLaws.{measurements_print_nothing}
use Rattle.dap_model.proofs.laws.measurements_print_nothing.Goals as goal

pub returns : goal.returns
returns c f opened lines taken none = measurements_print_nothing f opened lines taken none
