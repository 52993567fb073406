use Rattle.std.proofs.Common.{[], ◌∷◌, ◌∙◌}
use Rattle.vdaf_api.specs.declared.kind.Kind.TheVariants.{Count, Sum, Histogram, Vector}
use Rattle.prio3_kinds.specs.KindLaws.{kind_laws}
use Rattle.prio3_kinds.proofs.Itself.{count_vector, sum_vector, histogram_vector, list_vector}
use Rattle.prio3_kinds.proofs.laws.honest_reports_count_themselves.Goals as goal

pub returns-clause-count : goal.returns-clause-count
returns-clause-count c m small key id seed p hk hi hs shares fair = (kind_laws Count tt).honest key id (m ∷ []) seed p hk hi hs shares fair ∙ count_vector m small

pub returns-clause-sum : goal.returns-clause-sum
returns-clause-sum c bits m ranges small key id seed p hk hi hs shares fair = (kind_laws (Sum bits) ranges).honest key id (m ∷ []) seed p hk hi hs shares fair ∙ sum_vector bits m ranges.1 small

pub returns-clause-histogram : goal.returns-clause-histogram
returns-clause-histogram c bounds m ranges key id seed p hk hi hs shares fair = (kind_laws (Histogram bounds) ranges).honest key id (m ∷ []) seed p hk hi hs shares fair ∙ histogram_vector bounds m

pub returns-clause-vector : goal.returns-clause-vector
returns-clause-vector c len bits ms ranges are key id seed p hk hi hs shares fair =
    (kind_laws (Vector len bits) ranges).honest key id ms seed p hk hi hs shares fair ∙ list_vector len bits ms ranges.few_bits are
