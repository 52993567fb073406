use Rattle.field128.specs.Laws.{is_residue}
use Rattle.field128.proofs.field.Field128Field.add.Goals as goal

pub returns : goal.returns
returns c = is_residue _ _ c.add_numbers.ensures
