use Rattle.std.proofs.Common.{[], sym, ◌∙◌}
use Rattle.dap_script.proofs.ListLemmas.{numbers_go, numbers_stop}
use Rattle.dap_script.proofs.list.numbers.Goals as goal

pub returns-in-None : goal.returns-in-None
returns-in-None c =
    sym (numbers_stop c.loop-word.numbers.items c.args.words.now c.loop-word.word-index (record { ref_ptr = (0, 0); now = [] }) c.loop-word-test.true
    (sym c.number.ensures ∙ c.in-None.is)) ∙ c.loop-word.invariant

pub loop-word-preserved : goal.loop-word-preserved
loop-word-preserved c =
    rw c.in_ok-push-in-Some.ensures.items (numbers_go c.loop-word.numbers.items c.args.words.now c.loop-word.word-index (record { ref_ptr = (0, 0); now = [] }) c.in-Some.number
    c.loop-word-test.true (sym c.number.ensures ∙ c.in-Some.is) ∙ c.loop-word.invariant)
