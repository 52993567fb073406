use Rattle.job_leases.proofs.Again.{not_again}
use Rattle.job_leases.proofs.laws.a_leased_job_is_not_given_again.Goals as goal

pub returns : goal.returns
returns c turn later worker job jobs before = not_again turn later worker job jobs before
