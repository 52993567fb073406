use Rattle.std.proofs.Common.{refl}
use Rattle.field128.specs.Element.{half_element}
use Rattle.field128.specs.Laws.{is_residue}
use Rattle.field128.proofs.field.Field128Field.half.Goals as goal

pub returns : goal.returns
unfolding half_element
returns c = is_residue _ 170141183460469231473432886683950383105 refl
