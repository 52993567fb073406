use Rattle.std.proofs.Common.{◌*◌, ◌%◌}
use Rattle.stream_tests.specs.Modulus.{modulus}
use Rattle.stream_tests.specs.Laws.{is_residue}
use Rattle.stream_tests.proofs.field.SmallFieldField.mul.Goals as goal

pub returns : goal.returns
returns c = is_residue _ _ (λ i. (c.from.ensures i * c.from-2.ensures i) % modulus)
