use Rattle.dap_script.proofs.OneLaws.{one-collected, one-read}
use Rattle.dap_script.proofs.laws.one_bucket_need_not_be_said.Goals as goal

pub returns : goal.returns
returns c text name start = (one-collected text name start, one-read text name start)
