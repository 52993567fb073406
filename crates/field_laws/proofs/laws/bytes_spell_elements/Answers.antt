use Rattle.std.proofs.Common.{arith}
use Rattle.field_laws.proofs.Spelling.{length-low_bytes, from_low-low_bytes}
use Rattle.field_laws.proofs.laws.bytes_spell_elements.Goals as goal

pub returns-clause-fills_the_width : goal.returns-clause-fills_the_width
returns-clause-fills_the_width g c = λ x. length-low_bytes g.F.Field.WIDTH (g.F.Field.number x)

pub returns-clause-spells_the_number : goal.returns-clause-spells_the_number
returns-clause-spells_the_number g c = λ x. from_low-low_bytes g.F.Field.WIDTH (g.F.Field.number x) (omega (arith, g.met.F.Field.residues.below x, g.met.F.Field.room))
