use Rattle.std.proofs.Common.{ap, ◌∙◌}
use Rattle.field_laws.specs.Ring.{minus}
use Rattle.flp_circuits.specs.LinearityLaws.{bit_gadget}
use Rattle.flp_circuits.proofs.entries.bit_test.Goals as goal

pub returns : goal.returns
returns g c = λ b. c.sub.ensures ∙ ap (λ m. minus g.F.Field.ring m c.args.a) c.mul.ensures ∙ bit_gadget g.met.F.Field.laws c.args.a b
