use Rattle.field_laws.proofs.Divisors.{prime_divisors}
use Rattle.field_laws.proofs.laws.products_are_zero_by_a_factor.Goals as goal

pub returns-clause-a_factor_is_zero : goal.returns-clause-a_factor_is_zero
returns-clause-a_factor_is_zero g c = prime_divisors g.met.F.Field.residues g.met.F.Field.is_ring g.met.F.Field.prime
