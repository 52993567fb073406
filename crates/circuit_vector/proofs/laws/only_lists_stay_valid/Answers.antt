use Rattle.field_laws.proofs.Divisors.{prime_divisors}
use Rattle.field128.specs.Laws.{residues, laws, is_residue_ring}
use Rattle.circuit_vector.proofs.Numbers.{vector_refuses}
use Rattle.circuit_vector.proofs.laws.only_lists_stay_valid.Goals as goal

pub returns : goal.returns
returns c len bits x rs size many stays = vector_refuses laws.ring_laws (prime_divisors residues is_residue_ring laws.prime) len bits x rs size many stays
