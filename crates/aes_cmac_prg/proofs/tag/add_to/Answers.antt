use Rattle.std.proofs.Common.{arith}
use Rattle.aes_cmac_prg.proofs.Blocks.{add_bytes_by_entries}
use Rattle.aes_cmac_prg.proofs.tag.add_to.Goals as goal

pub returns : goal.returns
returns c =
    add_bytes_by_entries c.args.sum.now c.args.block.now c.loop-i.sum (omega (arith, c.told-sum)) (omega arith) (λ k lt. c.loop-i.invariant.joined k (omega arith))
