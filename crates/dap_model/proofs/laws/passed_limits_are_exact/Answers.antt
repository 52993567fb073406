use Rattle.dap_model.proofs.PassLaws.{passed-exact}
use Rattle.dap_model.proofs.laws.passed_limits_are_exact.Goals as goal

pub returns : goal.returns
returns c f limits opened lines = passed-exact f limits opened lines
