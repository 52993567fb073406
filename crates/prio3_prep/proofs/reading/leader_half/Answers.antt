use Rattle.std.proofs.Common.{length, arith}
use Rattle.prio3_prep.proofs.Cuts.{blind-len}
use Rattle.prio3_prep.proofs.reading.leader_half.Goals as goal

pub blind_from-requires : goal.blind_from-requires
blind_from-requires g c =
    blind-len (g.C.Circuit.shape c.args.c.now) (length c.split_at-2.result.1.now) (omega (arith, c.split_at-2.ensures.back_len, c.split_at.ensures.back_len, c.if-input-x_bytes.false, c.joint_bytes.ensures))
