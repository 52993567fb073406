use Rattle.std.proofs.Common.{◌≡◌, ap, ◌∙◌, arith, get_or}
use Rattle.std.proofs.lemmas.List.{get_or_default}
use Rattle.field_laws.specs.Ring.{minus}
use Rattle.flp_circuits.specs.LinearityLaws.{bit_gadget}
use Rattle.flp_tests.proofs.wide.WideCircuit.gadget.Goals as goal

pub returns : goal.returns
returns g c =
    let ring = g.E.Field.ring in
    let w = c.args.wires.now in
    let first : c.index-wires-0.result ≡ get_or w 0 ring.nought = c.index-wires-0.is ∙ get_or_default w 0 c.index-wires-0.result ring.nought (omega (arith, c.requires)) in
    c.sub.ensures ∙ ap (λ m. minus ring m c.index-wires-0.result) c.mul.ensures
    ∙ ap (λ a. minus ring (ring.mul a a) a) first ∙ bit_gadget g.met.E.Field.laws (get_or w 0 ring.nought) (get_or w 1 ring.nought)
