use Rattle.field64.specs.Laws.{is_residue}
use Rattle.field64.proofs.field.Field64Field.add.Goals as goal

pub returns : goal.returns
returns c = is_residue _ _ c.add_numbers.ensures
