use Rattle.std.proofs.Common.{refl}
use Rattle.field128.specs.Laws.{is_residue}
use Rattle.field128.proofs.field.Field128Field.zero.Goals as goal

pub returns : goal.returns
returns c = is_residue _ 0 refl
