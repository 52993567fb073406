use Rattle.std.proofs.Common.{◌≡◌, ℕ, suc, ◌+◌, ap, ◌∙◌, arith, refl, take, get_or, set}
use Rattle.std.proofs.lemmas.List.{get_or_default}
use Rattle.field_laws.specs.Polynomial.{add_polynomials, scale}
use Rattle.poly_plain.proofs.Multiples.{add_multiple-step}
use Rattle.poly_plain.proofs.multiplied.add_multiple.Goals as goal

pub loop-j-init : goal.loop-j-init
unfolding add_polynomials
loop-j-init g c = refl

pub loop-j-preserved : goal.loop-j-preserved
loop-j-preserved g c =
    let ring = g.F.Field.ring in
    let q = c.args.q.now in
    let j : ℕ = c.loop-j.j in
    let whole = add_polynomials ring (scale ring c.args.c (take j q)) c.args.to.now in
    let read : c.index-to-j.result ≡ get_or whole j ring.nought =
    c.index-to-j.is ∙ get_or_default c.loop-j.to j c.index-to-j.result ring.nought (omega (arith, c.loop-j.auto.to, c.requires)) ∙ ap (λ l. get_or l j ring.nought) c.loop-j.invariant in
    let value : c.add.result ≡ ring.add (ring.mul c.args.c (get_or q j ring.nought)) (get_or whole j ring.nought) =
    c.add.ensures ∙ ap (λ m. ring.add m c.index-to-j.result) (c.mul.ensures ∙ ap (ring.mul c.args.c) (c.index-q-j.is ∙ get_or_default q j c.index-q-j.result ring.nought (omega arith)))
    ∙ ap (ring.add (ring.mul c.args.c (get_or q j ring.nought))) read in
    ap (λ v. set c.loop-j.to j v) value
    ∙ ap (λ l. set l j (ring.add (ring.mul c.args.c (get_or q j ring.nought)) (get_or whole j ring.nought))) c.loop-j.invariant
    ∙ add_multiple-step g.met.F.Field.laws c.args.c q c.args.to.now j (omega arith) (omega (arith, c.requires))
    ∙ ap (λ k. add_polynomials ring (scale ring c.args.c (take k q)) c.args.to.now) (let e : suc j ≡ j + 1 = omega arith in e)
