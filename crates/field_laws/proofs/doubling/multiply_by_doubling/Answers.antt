use Rattle.std.proofs.Common.{◌≡◌, ◌%◌, sym, ap, ◌∙◌, arith}
use Rattle.field_laws.proofs.DoublingSteps.{doubling_even, doubling_odd, doubling_first, doubling_last}
use Rattle.field_laws.proofs.doubling.multiply_by_doubling.Goals as goal
use Rattle.field_laws.proofs.doubling.multiply_by_doubling.Goals.{then-rest-eq1, else-rest-eq1}

pub loop-rest-init : goal.loop-rest-init
loop-rest-init g c =
    let ring = g.F.Field.ring in
    let met = g.met.F.Field in
    ap (λ s. ring.add s (ring.mul c.args.a (g.F.Field.residue c.value-rest.result))) c.zero-product.ensures
    ∙ ap (λ n. ring.add ring.nought (ring.mul c.args.a (g.F.Field.residue n))) c.value-rest.ensures
    ∙ doubling_first met.laws met.residues met.is_ring c.args.a c.args.b

pub loop-rest-preserved : goal.loop-rest-preserved
loop-rest-preserved g c =
    let met = g.met.F.Field in
    elim c.if-rest-eq1.branch [
      | then-rest-eq1 w ↦ rw (w.product-is, w.add-product.ensures, c.add-addend.ensures) (doubling_odd met.laws met.residues met.is_ring _ _ _ w.if-rest-eq1.true ∙ c.loop-rest.invariant)
      | else-rest-eq1 w ↦ rw (w.product-is, c.add-addend.ensures) (doubling_even met.laws met.residues met.is_ring _ _ _ (let e : c.loop-rest.rest % 2 ≡ 0 = omega (arith, w.if-rest-eq1.false) in e) ∙ c.loop-rest.invariant)
    ]

pub returns : goal.returns
returns g c =
    let ring = g.F.Field.ring in
    let met = g.met.F.Field in
    let none_left : c.loop-rest.rest ≡ 0 = omega (arith, c.loop-rest-test.false) in
    sym (doubling_last met.laws met.residues met.is_ring c.loop-rest.product c.loop-rest.addend)
    ∙ ap (λ n. ring.add c.loop-rest.product (ring.mul c.loop-rest.addend (g.F.Field.residue n))) (sym none_left) ∙ c.loop-rest.invariant
