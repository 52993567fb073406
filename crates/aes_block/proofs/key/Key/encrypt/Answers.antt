use Rattle.std.proofs.Common.{◌≡◌, ◌+◌, sym, ap, ◌∙◌, arith}
use Rattle.aes_block.specs.State.{add_round_key}
use Rattle.aes_block.specs.Cipher.{encrypt, last_round, round, rounds}
use Rattle.aes_block.proofs.RoundKeys.{key_of-bytes, rounds_next}
use Rattle.aes_block.proofs.key.Key.encrypt.Goals as goal

pub loop-done-init : goal.loop-done-init
unfolding rounds
loop-done-init c =
    let first = key_of-bytes c.args.self.now c.self.inside.round_keys 0 c.self.view_is c.self.invariant (omega arith) in
    c.add_round_key.ensures ∙ (λ i. add_round_key (c.columns_of-state.ensures i) (first i))

pub loop-done-preserved : goal.loop-done-preserved
loop-done-preserved c =
    let n = c.loop-done.done in
    let key = key_of-bytes c.args.self.now c.self.inside.round_keys (n + 1) c.self.view_is c.self.invariant (omega arith) in
    c.round.ensures ∙ (λ i. round (c.loop-done.invariant i) (key i)) ∙ sym (rounds_next c.args.self.now c.args.block n)

pub returns : goal.returns
unfolding encrypt
returns c =
    let all : c.loop-done.done ≡ 9 = omega (arith, c.loop-done.auto.done-end) in
    let last = key_of-bytes c.args.self.now c.self.inside.round_keys 10 c.self.view_is c.self.invariant (omega arith) in
    c.block_of.ensures ∙ c.last_round.ensures ∙ (λ i. last_round ((c.loop-done.invariant ∙ ap (rounds c.args.self.now c.args.block) all) i) (last i))
