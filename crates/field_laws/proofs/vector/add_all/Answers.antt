use Rattle.std.proofs.Common.{◌≡◌, ℕ, suc, ◌+◌, map, sym, ap, ◌∙◌, arith, get_or, set}
use Rattle.std.proofs.lemmas.List.{get_or_default}
use Rattle.field_laws.specs.Vector.{add_elements}
use Rattle.field_laws.proofs.Modulo.{modular}
use Rattle.field_laws.proofs.Vectors.{added, added-zero, added-suc, added-all, map-add_elements}
use Rattle.field_laws.proofs.vector.add_all.Goals as goal

pub loop-i-init : goal.loop-i-init
loop-i-init g c = sym (added-zero g.F.Field.ring c.args.to.now c.args.from.now)

pub loop-i-preserved : goal.loop-i-preserved
loop-i-preserved g c =
    let ring = g.F.Field.ring in
    let to = c.args.to.now in
    let from = c.args.from.now in
    let i : ℕ = c.loop-i.i in
    let whole = added ring to from i in
    let old : c.index-to-i.result ≡ get_or whole i ring.nought =
    c.index-to-i.is ∙ get_or_default c.loop-i.to i c.index-to-i.result ring.nought (omega (arith, c.loop-i.auto.to, c.requires)) ∙ ap (λ l. get_or l i ring.nought) c.loop-i.invariant in
    let more : c.index-from-i.result ≡ get_or from i ring.nought =
    c.index-from-i.is ∙ get_or_default from i c.index-from-i.result ring.nought (omega arith) in
    ap (λ v. set c.loop-i.to i v) (c.add.ensures ∙ ap (λ x. ring.add x c.index-from-i.result) old ∙ ap (ring.add (get_or whole i ring.nought)) more)
    ∙ ap (λ l. set l i (ring.add (get_or whole i ring.nought) (get_or from i ring.nought))) c.loop-i.invariant
    ∙ added-suc ring to from i (omega (arith, c.requires)) (omega arith)
    ∙ ap (added ring to from) (let e : suc i ≡ i + 1 = omega arith in e)

pub returns : goal.returns
returns g c =
    let sum : c.loop-i.to ≡ add_elements g.F.Field.ring c.args.to.now c.args.from.now =
    c.loop-i.invariant ∙ added-all g.F.Field.ring c.args.to.now c.args.from.now c.loop-i.i (omega (arith, c.requires)) (omega arith) in
    record {
      elements = sum;
      numbers = ap (map g.F.Field.number) sum
          ∙ map-add_elements (modular g.met.F.Field.residues g.met.F.Field.is_ring) c.args.to.now c.args.from.now;
    }
