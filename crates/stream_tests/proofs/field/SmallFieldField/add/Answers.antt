use Rattle.std.proofs.Common.{refl}
use Rattle.stream_tests.specs.Laws.{is_residue}
use Rattle.stream_tests.proofs.field.SmallFieldField.add.Goals as goal

pub returns : goal.returns
returns c = is_residue _ _ refl
