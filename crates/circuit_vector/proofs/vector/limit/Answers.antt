use Rattle.std.proofs.Common.{arith}
use Rattle.std.proofs.lemmas.Nat.{one_shl}
use Rattle.circuit_vector.proofs.vector.limit.Goals as goal

pub returns : goal.returns
returns c = one_shl c.args.bits 64 (omega (arith, c.requires))
