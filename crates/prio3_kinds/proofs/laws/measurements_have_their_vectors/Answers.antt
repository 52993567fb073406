use Rattle.prio3_kinds.proofs.Itself.{count_vector, sum_vector, histogram_vector, list_vector}
use Rattle.prio3_kinds.proofs.laws.measurements_have_their_vectors.Goals as goal

pub returns-clause-count : goal.returns-clause-count
returns-clause-count c = count_vector

pub returns-clause-sum : goal.returns-clause-sum
returns-clause-sum c bits m h = sum_vector bits m h.1

pub returns-clause-histogram : goal.returns-clause-histogram
returns-clause-histogram c = histogram_vector

pub returns-clause-vector : goal.returns-clause-vector
returns-clause-vector c len bits ms h = list_vector len bits ms h.few_bits
