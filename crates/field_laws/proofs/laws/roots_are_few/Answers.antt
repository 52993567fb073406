use Rattle.field_laws.proofs.Divisors.{prime_divisors}
use Rattle.field_laws.proofs.RootCount.{few_roots}
use Rattle.field_laws.proofs.laws.roots_are_few.Goals as goal

pub returns : goal.returns
returns g c = few_roots g.met.F.Field.laws (prime_divisors g.met.F.Field.residues g.met.F.Field.is_ring g.met.F.Field.prime)
