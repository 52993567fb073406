use Rattle.std.proofs.Common.{arith}
use Rattle.prio3_prep.proofs.Cuts.{few-bytes}
use Rattle.prio3_prep.proofs.reading.input_bytes.Goals as goal

pub overflow_mul-result : goal.overflow_mul-result
overflow_mul-result g c = omega (arith, few-bytes c.input_len.result c.WIDTH.result (omega (arith, (g.met.C.Circuit.laws c.args.c.now).short_input, c.input_len.ensures)) (omega (arith, g.met.C.F.Field.narrow, c.WIDTH.ensures)))

pub returns-clause-few : goal.returns-clause-few
returns-clause-few g c = few-bytes c.input_len.result c.WIDTH.result (omega (arith, (g.met.C.Circuit.laws c.args.c.now).short_input, c.input_len.ensures)) (omega (arith, g.met.C.F.Field.narrow, c.WIDTH.ensures))
