use Rattle.std.proofs.Common.{◌%◌, ap}
use Rattle.field64.specs.Laws.{is_residue}
use Rattle.field64.proofs.field.Field64Field.of.Goals as goal

pub returns : goal.returns
returns c = is_residue _ c.args.value (ap (λ n. c.args.value % n) c.from.ensures)
