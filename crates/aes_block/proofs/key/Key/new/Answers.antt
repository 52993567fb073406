use Rattle.std.proofs.Common.{◌≡◌, [], sym, ap, ◌∙◌, refl, arith}
use Rattle.std.proofs.lemmas.List.{length-set, get_or-set_other}
use Rattle.aes_block.specs.Columns.{bytes_of}
use Rattle.aes_block.specs.Schedule.{round_words}
use Rattle.aes_block.proofs.RoundKeys.{round_words_first, AreRoundKeys_more}
use Rattle.aes_block.proofs.key.Key.new.Goals as goal

pub loop-round-init : goal.loop-round-init
loop-round-init c = record {
  length_is = refl;
  keys = λ i lt. let zeroth : i ≡ 0 = omega arith in rw zeroth (round_words_first c.args.key c.columns_of.result c.columns_of.ensures);
  first = c.columns_of.ensures;
}

pub loop-round-preserved : goal.loop-round-preserved
loop-round-preserved c =
    let keys = c.loop-round.round_keys in
    let n = c.loop-round.round in
    let held = c.loop-round.invariant in
    record {
      length_is = length-set keys n c.next_round_key.result ∙ held.length_is;
      keys = AreRoundKeys_more c.args.key n keys c.next_round_key.result (omega arith) (omega arith) (omega arith) held.keys c.next_round_key.ensures;
      first = ap bytes_of (get_or-set_other keys n 0 c.next_round_key.result [] (omega arith)) ∙ held.first;
    }

pub invariant_of-result : goal.invariant_of-result
invariant_of-result c = λ i lt.
    let held = c.loop-round.invariant in
    held.keys i (omega arith) ∙ ap (λ key. round_words key i) (sym held.first)
