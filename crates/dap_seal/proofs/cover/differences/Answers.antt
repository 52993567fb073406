use Rattle.std.proofs.Common.{[], ◌∷◌, ◌++◌, get_or, ap, ◌∙◌, arith}
use Rattle.std.specs.Prelude.{bit_xor}
use Rattle.dap_seal.proofs.Covers.{xor_bytes-push}
use Rattle.dap_seal.proofs.cover.differences.Goals as goal

pub loop-i-preserved : goal.loop-i-preserved
loop-i-preserved c =
    let a = c.args.bytes.now in
    let b = c.args.others.now in
    let i = c.loop-i.i in
    c.in_ok-push.ensures.items ∙ ap (λ l. l ++ bit_xor (get_or a i 0) (get_or b i 0) ∷ []) c.loop-i.invariant ∙ xor_bytes-push a b i (omega arith) (omega arith)
