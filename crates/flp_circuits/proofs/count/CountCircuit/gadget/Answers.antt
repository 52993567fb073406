use Rattle.std.proofs.Common.{◌≡◌, ap, ◌∙◌, arith, get_or}
use Rattle.std.proofs.lemmas.List.{get_or_default}
use Rattle.flp_circuits.specs.LinearityLaws.{product_gadget}
use Rattle.flp_circuits.proofs.count.CountCircuit.gadget.Goals as goal

pub returns : goal.returns
returns g c =
    let ring = g.E.Field.ring in
    let w = c.args.wires.now in
    let first : c.index-wires-0.result ≡ get_or w 0 ring.nought = c.index-wires-0.is ∙ get_or_default w 0 c.index-wires-0.result ring.nought (omega (arith, c.requires)) in
    let second : c.index-wires-1.result ≡ get_or w 1 ring.nought = c.index-wires-1.is ∙ get_or_default w 1 c.index-wires-1.result ring.nought (omega (arith, c.requires)) in
    c.mul.ensures ∙ ap (λ a. ring.mul a c.index-wires-1.result) first ∙ ap (ring.mul (get_or w 0 ring.nought)) second ∙ product_gadget g.met.E.Field.laws (get_or w 0 ring.nought) (get_or w 1 ring.nought)
