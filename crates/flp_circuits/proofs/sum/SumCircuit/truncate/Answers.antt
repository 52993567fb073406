use Rattle.std.proofs.Common.{◌≡◌, ◌++◌, ◌∷◌, [], ap, ◌∙◌}
use Rattle.field_laws.specs.Ring.{power}
use Rattle.flp_circuits.specs.Kinds.{weighted}
use Rattle.flp_circuits.proofs.Weights.{weighted-from_unit}
use Rattle.flp_circuits.proofs.sum.SumCircuit.truncate.Goals as goal

pub returns : goal.returns
returns g c =
    let ring = g.E.Field.ring in
    let x = c.args.x.now in
    let two : c.add-two.result ≡ ring.add ring.unit ring.unit = c.add-two.ensures ∙ ap (λ a. ring.add a c.one-2.result) c.one.ensures ∙ ap (ring.add ring.unit) c.one-2.ensures in
    c.in_ok-push.ensures.items ∙ ap (λ l. l ++ (c.weigh.result ∷ [])) c.new-out.ensures.items
    ∙ ap (λ v. v ∷ [])
    (c.weigh.ensures
    ∙ ap (λ n. weighted ring (λ i. ring.mul c.one-3.result (power ring c.add-two.result i)) n x) c.requires
    ∙ ap (λ o. weighted ring (λ i. ring.mul o (power ring c.add-two.result i)) c.args.self.now.bits x) c.one-3.ensures
    ∙ ap (λ t. weighted ring (λ i. ring.mul ring.unit (power ring t i)) c.args.self.now.bits x) two
    ∙ weighted-from_unit g.met.E.Field.laws c.args.self.now.bits x)
