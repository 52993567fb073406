use Rattle.std.proofs.Common.{refl}
use Rattle.stream_tests.specs.Element.{half_element}
use Rattle.stream_tests.specs.Laws.{is_residue}
use Rattle.stream_tests.proofs.field.SmallFieldField.half.Goals as goal

pub returns : goal.returns
unfolding half_element
returns c = is_residue _ 393217 refl
