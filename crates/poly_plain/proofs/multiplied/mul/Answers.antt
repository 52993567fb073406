use Rattle.std.proofs.Common.{◌≡◌, ℕ, ◌+◌, ◌-◌, ◌++◌, ◌∷◌, [], List, ap, ◌∙◌, sym, arith, drop, take, length}
use Rattle.std.specs.Prelude.{replicate}
use Rattle.std.proofs.Math.Seq.{take-append_seam}
use Rattle.std.proofs.Math.ListN.{length-append}
use Rattle.std.proofs.lemmas.List.{length-replicate, replicate_more, nil_from_length}
use Rattle.field_laws.specs.Polynomial.{eval, add_polynomials, scale}
use Rattle.field_laws.proofs.Polynomials.{eval-product}
use Rattle.poly_plain.proofs.Multiples.{product_over, product_over_noughts, product_over-row}
use Rattle.poly_plain.proofs.multiplied.mul.Goals as goal

-- a slice over a whole vector, written back
written : {A : Type 0} (new old : List A) (n : ℕ) → length new ≡ n → take n (new ++ drop (length new) old) ≡ new
written new old n e = ap (λ k. take k (new ++ drop (length new) old)) (sym e) ∙ take-append_seam new (drop (length new) old)

pub loop-j-init : goal.loop-j-init
loop-j-init g c = record { some = omega arith; made = c.new-made.ensures.items }

pub loop-j-preserved : goal.loop-j-preserved
loop-j-preserved g c =
    let nought = g.F.Field.ring.nought in
    let j : ℕ = c.loop-j._j in
    record {
      some = omega arith;
      made = c.in_ok-push.ensures.items ∙ ap (λ l. l ++ (c.zero.result ∷ [])) c.loop-j.invariant.made ∙ ap (λ x. replicate (j - 1) nought ++ (x ∷ [])) c.zero.ensures
          ∙ replicate_more (j - 1) nought ∙ ap (λ n. replicate n nought) (let e : (j - 1) + 1 ≡ j + 1 - 1 = omega (arith, c.loop-j.invariant.some) in e);
    }

pub loop-coefficient-init : goal.loop-coefficient-init
loop-coefficient-init g c =
    let ring = g.F.Field.ring in
    let a = c.args.a.now in
    let b = c.args.b.now in
    let all : c.into_iter-coefficient-iterator.result.iter.rest.now ≡ a = cc (c.iter.ensures.rest, c.rev-coefficient-items.ensures.source, c.into_iter-coefficient-iterator.ensures.into_iter_gives) in
    let count : c.loop-j._j - 1 ≡ length b - 1 = omega (arith, c.loop-j-test.false, c.loop-j.auto._j-end, c.requires.second) in
    let items : c.loop-j.made.items ≡ replicate (length b - 1) ring.nought = c.loop-j.invariant.made ∙ ap (λ n. replicate n ring.nought) count in
    record {
      size = omega (arith, ap length items, length-replicate (length b - 1) ring.nought, ap length all, c.requires.second);
      within = omega (arith, ap length all);
      made = ap (λ m. product_over ring m c.into_iter-coefficient-iterator.result.iter.rest.now b) items
          ∙ ap (λ r. product_over ring (replicate (length b - 1) ring.nought) r b) all
          ∙ product_over_noughts g.met.F.Field.laws a b c.requires.first c.requires.second;
    }

pub loop-coefficient-preserved : goal.loop-coefficient-preserved
loop-coefficient-preserved g c =
    let ring = g.F.Field.ring in
    let b = c.args.b.now in
    let rest = c.next.new.self.iter.rest.now in
    let x = c.in-Some.coefficient.now in
    let items = c.insert.new.self.items in
    let new = c.add_multiple.new.to in
    let kept : length new ≡ length items = c.add_multiple.auto.to ∙ ap length c.deref_mut.ensures.value in
    let back : take c.insert.new.self.len (new ++ drop (length new) items) ≡ new = written new items c.insert.new.self.len (kept ∙ sym c.insert.new.self.ok.0) in
    let row : new ≡ add_polynomials ring (scale ring x b) (ring.nought ∷ c.loop-coefficient.made.items) =
    c.add_multiple.ensures ∙ ap (add_polynomials ring (scale ring x b)) (c.deref_mut.ensures.value ∙ c.in_ok-insert.ensures.items ∙ ap (λ z. z ∷ c.loop-coefficient.made.items) c.zero-in-loop-coefficient.ensures) in
    let taken : length c.loop-coefficient.coefficient-iterator.iter.rest.now ≡ length rest + 1 = ap length c.in-Some.ensures.steps ∙ length-append rest (x ∷ []) in
    record {
      size = omega (arith, ap length back, kept, ap length c.in_ok-insert.ensures.items, c.loop-coefficient.invariant.size, taken);
      within = omega (arith, c.loop-coefficient.invariant.within, taken);
      made = ap (λ m. product_over ring m rest b) (back ∙ row)
          ∙ sym (product_over-row g.met.F.Field.laws c.loop-coefficient.made.items rest b x)
          ∙ ap (λ r. product_over ring c.loop-coefficient.made.items r b) (sym c.in-Some.ensures.steps)
          ∙ c.loop-coefficient.invariant.made;
    }

pub returns-clause-product : goal.returns-clause-product
unfolding product_over
returns-clause-product g c =
    let none : c.loop-coefficient.coefficient-iterator.iter.rest.now ≡ [] = nil_from_length _ c.in-None.ensures.steps.0 in
    ap (λ r. product_over g.F.Field.ring c.loop-coefficient.made.items r c.args.b.now) (sym none) ∙ c.loop-coefficient.invariant.made

pub returns-clause-value : goal.returns-clause-value
returns-clause-value g c = λ x. ap (λ p. eval g.F.Field.ring p x) (returns-clause-product g c) ∙ eval-product g.met.F.Field.laws c.args.a.now c.args.b.now x
