use Rattle.std.proofs.Common.{◌≡◌, ℕ, suc, ◌+◌, ◌<◌, ◌++◌, ap, ◌∙◌, sym, arith, get_or, set, take, drop, length}
use Rattle.std.proofs.lemmas.List.{get_or_default, get_or-map}
use Rattle.field_laws.specs.Polynomial.{scale}
use Rattle.field_laws.proofs.Polynomials.{length-scale}
use Rattle.poly_ntt.proofs.Seams.{set_seam, read_seam}
use Rattle.poly_ntt.proofs.transform.scale_all.Goals as goal

pub loop-i-preserved : goal.loop-i-preserved
loop-i-preserved g c =
    let ring = g.F.Field.ring in
    let old = c.args.p.now in
    let i : ℕ = c.loop-i.i in
    let scaled = scale ring c.args.c old in
    let inside : i < length old = omega (arith, c.loop-i-test.true) in
    let within : i < length scaled = omega (arith, length-scale ring c.args.c old, inside) in
    let read : c.index-p-i.result ≡ get_or old i ring.nought =
    c.index-p-i.is ∙ get_or_default c.loop-i.p i c.index-p-i.result ring.nought (omega (arith, c.loop-i.auto.p, inside)) ∙ ap (λ l. get_or l i ring.nought) c.loop-i.invariant ∙ read_seam scaled old i ring.nought inside within in
    let value : c.mul.result ≡ get_or scaled i ring.nought = c.mul.ensures ∙ ap (ring.mul c.args.c) read ∙ sym (get_or-map (ring.mul c.args.c) old i ring.nought ring.nought inside) in
    ap (λ v. set c.loop-i.p i v) value ∙ ap (λ l. set l i (get_or scaled i ring.nought)) c.loop-i.invariant ∙ set_seam scaled old i ring.nought inside within
    ∙ ap (λ n. take n scaled ++ drop n old) (let e : suc i ≡ i + 1 = omega arith in e)
