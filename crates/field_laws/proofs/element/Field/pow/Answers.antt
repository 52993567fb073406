use Rattle.std.proofs.Common.{◌≡◌, ◌%◌, sym, ap, ◌∙◌, arith}
use Rattle.field_laws.specs.Ring.{RingLaws, power}
use Rattle.field_laws.proofs.Powers.{even_step, odd_step, power-zero}
use Rattle.field_laws.proofs.element.Field.pow.Goals as goal
use Rattle.field_laws.proofs.element.Field.pow.Goals.{then-rest-eq1, else-rest-eq1}

pub loop-rest-preserved : goal.loop-rest-preserved
loop-rest-preserved g c =
    let ring = g.Self.Field.ring in
    let laws : RingLaws ring = g.met.Self.Field.laws in
    elim c.if-rest-eq1.branch [
      | then-rest-eq1 w ↦ rw (w.product-is, w.mul-product.ensures, c.mul-base.ensures) (odd_step laws _ _ _ w.if-rest-eq1.true ∙ c.loop-rest.invariant)
      | else-rest-eq1 w ↦ rw (w.product-is, c.mul-base.ensures) (even_step laws _ _ _ (let e : c.loop-rest.rest % 2 ≡ 0 = omega (arith, w.if-rest-eq1.false) in e) ∙ c.loop-rest.invariant)
    ]

pub returns : goal.returns
returns g c =
    let ring = g.Self.Field.ring in
    let laws : RingLaws ring = g.met.Self.Field.laws in
    let none_left : c.loop-rest.rest ≡ 0 = omega (arith, c.loop-rest-test.false) in
    sym (laws.mul-unit c.loop-rest.product) ∙ ap (ring.mul c.loop-rest.product) (sym (power-zero laws c.loop-rest.base) ∙ ap (power ring c.loop-rest.base) (sym none_left)) ∙ c.loop-rest.invariant
