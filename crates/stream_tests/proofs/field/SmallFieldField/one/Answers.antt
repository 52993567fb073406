use Rattle.std.proofs.Common.{refl}
use Rattle.stream_tests.specs.Laws.{is_residue}
use Rattle.stream_tests.proofs.field.SmallFieldField.one.Goals as goal

pub returns : goal.returns
returns c = is_residue _ 1 refl
