use Rattle.std.proofs.Common.{refl}
use Rattle.prio3_kinds.proofs.laws.answers_are_their_vectors.Goals as goal

pub returns-clause-count : goal.returns-clause-count
returns-clause-count c n = refl

pub returns-clause-sum : goal.returns-clause-sum
returns-clause-sum c bits n = refl

pub returns-clause-histogram : goal.returns-clause-histogram
returns-clause-histogram c bounds v = refl

pub returns-clause-vector : goal.returns-clause-vector
returns-clause-vector c len bits v = refl
