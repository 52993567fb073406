use Rattle.std.proofs.Common.{◌≡◌, ℕ, ◌+◌, ap, ◌∙◌, arith, get_or, length}
use Rattle.std.proofs.lemmas.List.{get_or_default}
use Rattle.field_laws.specs.Ring.{power, minus}
use Rattle.flp_circuits.specs.Kinds.{weighted, weighed, total}
use Rattle.flp_circuits.proofs.Weights.{weighted-from_ratio}
use Rattle.flp_circuits.proofs.histogram.HistogramCircuit.validity.Goals as goal

pub returns : goal.returns
returns g c =
    let ring = g.E.Field.ring in
    let joint = c.args.joint.now in
    let results = c.args.results.now in
    let x = c.args.x.now in
    let n : ℕ = length c.args.self.now.bounds.items + 1 in
    let q = get_or joint 0 ring.nought in
    let r = get_or joint 1 ring.nought in
    let first : c.index-joint-0.result ≡ q = c.index-joint-0.is ∙ get_or_default joint 0 c.index-joint-0.result ring.nought (omega (arith, c.requires.joint)) in
    let again : c.index-joint-0-2.result ≡ q = c.index-joint-0-2.is ∙ get_or_default joint 0 c.index-joint-0-2.result ring.nought (omega (arith, c.requires.joint)) in
    let second : c.index-joint-1.result ≡ r = c.index-joint-1.is ∙ get_or_default joint 1 c.index-joint-1.result ring.nought (omega (arith, c.requires.joint)) in
    let test : c.weigh-test.result ≡ weighed ring q n results =
    c.weigh-test.ensures
    ∙ ap (λ m. weighted ring (λ i. ring.mul c.index-joint-0.result (power ring c.index-joint-0-2.result i)) m results) c.requires.results
    ∙ ap (λ a. weighted ring (λ i. ring.mul a (power ring c.index-joint-0-2.result i)) n results) first
    ∙ ap (λ a. weighted ring (λ i. ring.mul q (power ring a i)) n results) again
    ∙ weighted-from_ratio g.met.E.Field.laws q n results in
    let rest : c.sub.result ≡ minus ring (total ring n x) c.args.one = c.sub.ensures ∙ ap (λ t. minus ring t c.args.one) (c.sum_all.ensures ∙ ap (λ m. total ring m x) c.requires.length) in
    c.add.ensures
    ∙ ap (λ a. ring.add a c.mul-3.result) (c.mul.ensures ∙ ap (ring.mul c.index-joint-1.result) test)
    ∙ ap (ring.add (ring.mul c.index-joint-1.result (weighed ring q n results))) (c.mul-3.ensures ∙ ap (λ a. ring.mul a c.sub.result) c.mul-2.ensures ∙ ap (ring.mul (ring.mul c.index-joint-1.result c.index-joint-1.result)) rest)
    ∙ ap (λ a. ring.add (ring.mul a (weighed ring q n results)) (ring.mul (ring.mul a a) (minus ring (total ring n x) c.args.one))) second
