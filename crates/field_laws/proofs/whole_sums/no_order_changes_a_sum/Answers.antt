use Rattle.field_laws.proofs.WholeSumLaws.{sum_of-permutation}
use Rattle.field_laws.proofs.whole_sums.no_order_changes_a_sum.Goals as goal

pub returns : goal.returns
returns c p n vectors others h = sum_of-permutation p n vectors others h
