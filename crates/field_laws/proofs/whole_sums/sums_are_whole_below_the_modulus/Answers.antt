use Rattle.field_laws.proofs.WholeSumLaws.{sum_of-below, sum_of-whole}
use Rattle.field_laws.proofs.whole_sums.sums_are_whole_below_the_modulus.Goals as goal

pub returns-clause-modulo : goal.returns-clause-modulo
returns-clause-modulo c p n vectors h = sum_of-whole p n vectors h

pub returns-clause-whole : goal.returns-clause-whole
returns-clause-whole c p n vectors h small = sum_of-below p n vectors h small
