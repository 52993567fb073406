use Rattle.std.proofs.Common.{◌≡◌, ◌*◌, ap, ◌∙◌, arith, get_or}
use Rattle.std.proofs.lemmas.List.{get_or_default}
use Rattle.field_laws.specs.Ring.{power}
use Rattle.field128.specs.Element.{ring_of}
use Rattle.field128.specs.Laws.{laws}
use Rattle.flp_circuits.specs.Kinds.{weighted}
use Rattle.flp_circuits.proofs.Weights.{weighted-from_ratio}
use Rattle.circuit_vector.proofs.vector.VectorCircuitCircuit.validity.Goals as goal

pub returns : goal.returns
returns c =
    let joint = c.args.joint.now in
    let results = c.args.results.now in
    let bits = c.args.self.now.len * c.args.self.now.bits in
    let r = get_or joint 0 ring_of.nought in
    let first : c.index-joint-0.result ≡ r = c.index-joint-0.is ∙ get_or_default joint 0 c.index-joint-0.result ring_of.nought (omega (arith, c.requires.joint)) in
    let again : c.index-joint-0-2.result ≡ r = c.index-joint-0-2.is ∙ get_or_default joint 0 c.index-joint-0-2.result ring_of.nought (omega (arith, c.requires.joint)) in
    c.weigh.ensures
    ∙ ap (λ n. weighted ring_of (λ i. ring_of.mul c.index-joint-0.result (power ring_of c.index-joint-0-2.result i)) n results) c.requires.results
    ∙ ap (λ a. weighted ring_of (λ i. ring_of.mul a (power ring_of c.index-joint-0-2.result i)) bits results) first
    ∙ ap (λ a. weighted ring_of (λ i. ring_of.mul r (power ring_of a i)) bits results) again
    ∙ weighted-from_ratio laws.ring_laws r bits results
