use Rattle.dap_agree.proofs.First.{first_one}
use Rattle.dap_agree.proofs.laws.one_record_is_the_first_without_its_counterpart.Goals as goal

pub returns : goal.returns
returns c f js here there a b = first_one f js here there a b
