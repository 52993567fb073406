use Rattle.std.proofs.Common.{◌≡◌, ◌++◌, ◌∷◌, [], ap, ◌∙◌, sym}
use Rattle.std.proofs.lemmas.List.{nil_from_length}
use Rattle.field_laws.specs.Polynomial.{eval}
use Rattle.field_laws.proofs.Polynomials.{eval-constant, eval-push_nought, eval-join_last}
use Rattle.field_laws.proofs.Sums.{eval_is_sum}
use Rattle.poly_plain.proofs.value.eval.Goals as goal

pub loop-coefficient-init : goal.loop-coefficient-init
loop-coefficient-init g c =
    let ring = g.F.Field.ring in
    let p = c.args.p.now in
    let all : c.into_iter-coefficient-iterator.result.iter.rest.now ≡ p = cc (c.iter.ensures.rest, c.rev-coefficient-items.ensures.source, c.into_iter-coefficient-iterator.ensures.into_iter_gives) in
    ap (λ r. eval ring (r ++ c.zero-value.result ∷ []) c.args.x) all ∙ ap (λ v. eval ring (p ++ v ∷ []) c.args.x) c.zero-value.ensures ∙ eval-push_nought g.met.F.Field.laws p c.args.x

pub loop-coefficient-preserved : goal.loop-coefficient-preserved
loop-coefficient-preserved g c =
    let ring = g.F.Field.ring in
    let rest = c.next.new.self.iter.rest.now in
    let a = c.in-Some.coefficient.now in
    ap (λ v. eval ring (rest ++ v ∷ []) c.args.x) (c.add-value.ensures ∙ ap (ring.add a) c.mul.ensures)
    ∙ sym (eval-join_last g.met.F.Field.laws rest a c.loop-coefficient.value c.args.x)
    ∙ ap (λ r. eval ring (r ++ c.loop-coefficient.value ∷ []) c.args.x) (sym c.in-Some.ensures.steps)
    ∙ c.loop-coefficient.invariant

pub returns-clause-value : goal.returns-clause-value
returns-clause-value g c =
    let none : c.loop-coefficient.coefficient-iterator.iter.rest.now ≡ [] = nil_from_length _ c.in-None.ensures.steps.0 in
    sym (eval-constant g.met.F.Field.laws c.loop-coefficient.value c.args.x)
    ∙ ap (λ r. eval g.F.Field.ring (r ++ c.loop-coefficient.value ∷ []) c.args.x) (sym none) ∙ c.loop-coefficient.invariant

pub returns-clause-terms : goal.returns-clause-terms
returns-clause-terms g c = returns-clause-value g c ∙ eval_is_sum g.met.F.Field.laws c.args.p.now c.args.x
