use Rattle.std.proofs.Common.{◌≡◌, ap, ◌∙◌, arith, get_or}
use Rattle.std.proofs.lemmas.List.{get_or_default}
use Rattle.field_laws.specs.Ring.{power}
use Rattle.flp_circuits.specs.Kinds.{weighted}
use Rattle.flp_circuits.proofs.Weights.{weighted-from_ratio}
use Rattle.flp_circuits.proofs.sum.SumCircuit.validity.Goals as goal

pub returns : goal.returns
returns g c =
    let ring = g.E.Field.ring in
    let joint = c.args.joint.now in
    let results = c.args.results.now in
    let bits = c.args.self.now.bits in
    let r = get_or joint 0 ring.nought in
    let first : c.index-joint-0.result ≡ r = c.index-joint-0.is ∙ get_or_default joint 0 c.index-joint-0.result ring.nought (omega (arith, c.requires.joint)) in
    let again : c.index-joint-0-2.result ≡ r = c.index-joint-0-2.is ∙ get_or_default joint 0 c.index-joint-0-2.result ring.nought (omega (arith, c.requires.joint)) in
    c.weigh.ensures
    ∙ ap (λ n. weighted ring (λ i. ring.mul c.index-joint-0.result (power ring c.index-joint-0-2.result i)) n results) c.requires.results
    ∙ ap (λ a. weighted ring (λ i. ring.mul a (power ring c.index-joint-0-2.result i)) bits results) first
    ∙ ap (λ a. weighted ring (λ i. ring.mul r (power ring a i)) bits results) again
    ∙ weighted-from_ratio g.met.E.Field.laws r bits results
