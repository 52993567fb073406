use Rattle.std.proofs.Common.{refl}
use Rattle.field64.specs.Element.{half_element}
use Rattle.field64.specs.Laws.{is_residue}
use Rattle.field64.proofs.field.Field64Field.half.Goals as goal

pub returns : goal.returns
unfolding half_element
returns c = is_residue _ 9223372034707292161 refl
