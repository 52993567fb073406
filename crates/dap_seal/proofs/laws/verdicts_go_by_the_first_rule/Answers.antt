use Rattle.dap_seal.specs.Reports.{opened_report}
use Rattle.dap_seal.proofs.FirstRule.{goes_by_the_first_rule}
use Rattle.dap_seal.proofs.laws.verdicts_go_by_the_first_rule.Goals as goal

pub returns : goal.returns
returns c f t r = goes_by_the_first_rule f (opened_report t r)
