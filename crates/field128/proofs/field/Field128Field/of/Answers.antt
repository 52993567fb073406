use Rattle.std.proofs.Common.{refl}
use Rattle.field128.specs.Laws.{is_residue}
use Rattle.field128.proofs.field.Field128Field.of.Goals as goal

pub returns : goal.returns
returns c = is_residue _ c.args.value refl
