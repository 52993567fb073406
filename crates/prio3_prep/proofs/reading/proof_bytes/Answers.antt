use Rattle.std.proofs.Common.{arith}
use Rattle.prio3_share.proofs.Lengths.{proof_len-few}
use Rattle.prio3_prep.proofs.Cuts.{few-bytes}
use Rattle.prio3_prep.proofs.reading.proof_bytes.Goals as goal

pub overflow_mul-result : goal.overflow_mul-result
overflow_mul-result g c = omega (arith, few-bytes c.proof_len.result c.WIDTH.result (omega (arith, proof_len-few (g.met.C.Circuit.laws c.args.c.now), c.proof_len.ensures)) (omega (arith, g.met.C.F.Field.narrow, c.WIDTH.ensures)))

pub returns-clause-few : goal.returns-clause-few
returns-clause-few g c = few-bytes c.proof_len.result c.WIDTH.result (omega (arith, proof_len-few (g.met.C.Circuit.laws c.args.c.now), c.proof_len.ensures)) (omega (arith, g.met.C.F.Field.narrow, c.WIDTH.ensures))
