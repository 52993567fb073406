use Rattle.std.proofs.Common.{length, ap, arith}
use Rattle.prio3_share.proofs.Lengths.{proof_len-few}
use Rattle.prio3_share.proofs.sharing.proof_halves.Goals as goal

pub halves_of-requires : goal.halves_of-requires
halves_of-requires g c = omega (arith, proof_len-few (g.met.C.Circuit.laws c.args.c.now), ap length c.deref-2.ensures.value, c.in_ok-proof.ensures.size)
