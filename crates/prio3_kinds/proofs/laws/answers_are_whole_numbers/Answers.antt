use Rattle.prio3_kinds.proofs.WholeAnswers.{whole-numbers}
use Rattle.prio3_kinds.proofs.laws.answers_are_whole_numbers.Goals as goal

pub returns : goal.returns
returns c kind measurements ranges measured few = whole-numbers kind measurements ranges measured few
