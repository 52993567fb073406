use Rattle.std.proofs.Common.{length, ap, arith}
use Rattle.dap_seal.specs.SealLaws.{length-stream}
use Rattle.dap_seal.proofs.cover.covered.Goals as goal

pub differences-requires : goal.differences-requires
differences-requires c =
    omega (arith, ap length c.deref-2.ensures.value, ap length c.in_ok-stream.ensures, length-stream c.args.keys.now.enc c.deref.result.now (length c.args.bytes.now))
