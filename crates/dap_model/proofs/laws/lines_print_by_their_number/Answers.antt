use Rattle.dap_model.proofs.NumberLaws.{prints-by_number}
use Rattle.dap_model.proofs.laws.lines_print_by_their_number.Goals as goal

pub returns : goal.returns
returns c f opened before line behind = prints-by_number f opened before line behind
