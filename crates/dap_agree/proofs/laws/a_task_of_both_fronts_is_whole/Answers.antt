use Rattle.std.proofs.Common.{refl}
use Rattle.dap_agree.proofs.laws.a_task_of_both_fronts_is_whole.Goals as goal

pub returns : goal.returns
returns c t format other = refl
