use Rattle.std.proofs.Common.{get_or, set, ap, ◌∙◌, arith}
use Rattle.std.specs.Prelude.{bit_xor}
use Rattle.dap_batch.specs.XorLaws.{xor-more}
use Rattle.dap_batch.proofs.checksum.xor.Goals as goal

pub loop-i-preserved : goal.loop-i-preserved
loop-i-preserved c =
    let left = c.args.left.now in
    let right = c.args.right.now in
    let i = c.loop-i.i in
    ap (λ l. set l i (bit_xor (get_or left i 0) (get_or right i 0))) c.loop-i.invariant ∙ xor-more left right i (omega arith) (omega arith)
