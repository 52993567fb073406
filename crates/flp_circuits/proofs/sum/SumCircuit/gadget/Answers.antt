use Rattle.std.proofs.Common.{◌≡◌, ap, ◌∙◌, arith, get_or}
use Rattle.std.proofs.lemmas.List.{get_or_default}
use Rattle.flp_circuits.specs.Shape.{quadratic_at}
use Rattle.flp_circuits.specs.Kinds.{bit_form}
use Rattle.flp_circuits.proofs.sum.SumCircuit.gadget.Goals as goal

pub returns : goal.returns
returns g c =
    let ring = g.E.Field.ring in
    let w = c.args.wires.now in
    let first : c.index-wires-0.result ≡ get_or w 0 ring.nought = c.index-wires-0.is ∙ get_or_default w 0 c.index-wires-0.result ring.nought (omega (arith, c.requires)) in
    c.bit_test.ensures (get_or w 1 ring.nought) ∙ ap (λ a. quadratic_at ring (bit_form ring) a (get_or w 1 ring.nought)) first
