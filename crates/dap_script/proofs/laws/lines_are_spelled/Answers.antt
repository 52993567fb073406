use Rattle.dap_script.proofs.LineLaws.{line_spelled, line_of-spelled}
use Rattle.dap_script.proofs.laws.lines_are_spelled.Goals as goal

pub returns : goal.returns
returns c text line = (line_spelled text line, line_of-spelled text line)
