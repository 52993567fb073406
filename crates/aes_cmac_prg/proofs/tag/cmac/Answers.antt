use Rattle.std.proofs.Common.{◌≡◌, ◌+◌, ◌-◌, ◌*◌, ◌/◌, take, drop, length, refl, sym, ap, ◌∙◌, arith}
use Rattle.std.proofs.lemmas.List.{take_rest}
use Rattle.aes_block.specs.Cipher.{encrypt}
use Rattle.aes_block.specs.Schedule.{add_bytes}
use Rattle.aes_cmac_prg.specs.Cmac.{chained, cmac, last_block}
use Rattle.aes_cmac_prg.proofs.Blocks.{chained_next}
use Rattle.aes_cmac_prg.proofs.tag.cmac.Goals as goal

pub loop-i-init : goal.loop-i-init
unfolding chained
loop-i-init c = refl

pub loop-i-preserved : goal.loop-i-preserved
loop-i-preserved c =
    let key = c.args.key.now in
    let text = c.args.text.now in
    let i = c.loop-i.i in
    let width : 16 * i + 16 - 16 * i ≡ 16 = omega arith in
    c.chain_on.ensures ∙ (λ t. encrypt key (add_bytes (c.loop-i.invariant t) (take (width t) (drop (16 * i) text)))) ∙ sym (chained_next key text i)

pub returns : goal.returns
unfolding cmac
returns c =
    let key = c.args.key.now in
    let text = c.args.text.now in
    let n = c.saturating_sub-before_last.result / 16 in
    let blocks : n ≡ (length text - 1) / 16 = ap (λ m. m / 16) c.saturating_sub-before_last.ensures in
    let all : c.loop-i.i ≡ (length text - 1) / 16 = omega (arith, c.loop-i.auto.i-end) in
    let chain : c.loop-i.chain ≡ chained key text ((length text - 1) / 16) = c.loop-i.invariant ∙ ap (chained key text) all in
    let last : c.last_block-last.result ≡ last_block key (drop (16 * ((length text - 1) / 16)) text) =
    c.last_block-last.ensures ∙ ap (last_block key) (take_rest text (16 * n)) ∙ ap (λ m. last_block key (drop (16 * m) text)) blocks in
    c.chain_on-2.ensures ∙ (λ t. encrypt key (add_bytes (chain t) (last t)))
