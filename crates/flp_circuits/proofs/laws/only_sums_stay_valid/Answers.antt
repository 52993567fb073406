use Rattle.field_laws.proofs.Divisors.{prime_divisors}
use Rattle.flp_circuits.proofs.Refusals.{sum_refuses}
use Rattle.flp_circuits.proofs.laws.only_sums_stay_valid.Goals as goal

pub returns : goal.returns
returns g c = let met = g.met.E.Field in sum_refuses met.laws (prime_divisors met.residues met.is_ring met.prime)
