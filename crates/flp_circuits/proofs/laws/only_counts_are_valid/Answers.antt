use Rattle.field_laws.proofs.Divisors.{prime_divisors}
use Rattle.flp_circuits.proofs.Refusals.{count_refuses}
use Rattle.flp_circuits.proofs.laws.only_counts_are_valid.Goals as goal

pub returns : goal.returns
returns g c = let met = g.met.E.Field in count_refuses met.laws (prime_divisors met.residues met.is_ring met.prime)
