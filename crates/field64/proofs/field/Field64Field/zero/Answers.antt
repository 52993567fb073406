use Rattle.std.proofs.Common.{refl}
use Rattle.field64.specs.Laws.{is_residue}
use Rattle.field64.proofs.field.Field64Field.zero.Goals as goal

pub returns : goal.returns
returns c = is_residue _ 0 refl
