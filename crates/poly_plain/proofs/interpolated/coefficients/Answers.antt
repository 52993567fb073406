use Rattle.std.proofs.Common.{◌≡◌, ℕ, ◌+◌, ◌-◌, ◌^◌, ◌++◌, ◌∷◌, [], suc, ap, ◌∙◌, sym, arith, map}
use Rattle.std.specs.List.{range_with_len}
use Rattle.std.proofs.lemmas.List.FromFn.{map-range_with_len_more}
use Rattle.field_laws.specs.Ring.{power}
use Rattle.field_laws.proofs.Powers.{power-zero, power-suc}
use Rattle.field_laws.specs.Polynomial.{eval}
use Rattle.field_laws.specs.Interpolation.{coefficient}
use Rattle.poly_plain.proofs.interpolated.coefficients.Goals as goal

pub loop-i-init : goal.loop-i-init
loop-i-init g c = record {
  point = c.one-point.ensures ∙ sym (power-zero g.met.F.Field.laws _);
  made = c.new-made.ensures.items;
}

pub loop-i-preserved : goal.loop-i-preserved
unfolding coefficient
loop-i-preserved g c =
    let ring = g.F.Field.ring in
    let laws = g.met.F.Field.laws in
    let inverse = power ring (g.F.Field.root_of c.args.log) (2 ^ c.args.log - 1) in
    let i : ℕ = c.loop-i._i in
    let is_inverse : c.pow-inverse.result ≡ inverse = rw (c.root.ensures, c.requires.size) at c.pow-inverse.ensures in
    let is_scale : c.pow-scale.result ≡ power ring g.F.Field.half_of c.args.log = rw (c.half.ensures, c.from.ensures) at c.pow-scale.ensures in
    record {
      point = c.mul-point.ensures ∙ ap (λ p. ring.mul p c.pow-inverse.result) c.loop-i.invariant.point ∙ ap (ring.mul (power ring inverse i)) is_inverse
          ∙ laws.mul_comm _ _ ∙ sym (power-suc laws inverse i) ∙ ap (power ring inverse) (let e : suc i ≡ i + 1 = omega arith in e);
      made = c.in_ok-push.ensures.items ∙ ap (λ l. l ++ (c.mul.result ∷ [])) c.loop-i.invariant.made
          ∙ ap (λ x. map (coefficient ring g.F.Field.half_of inverse c.args.log c.args.values.now) (range_with_len 0 i) ++ (x ∷ []))
          (c.mul.ensures ∙ ap (λ s. ring.mul s c.eval.result) is_scale ∙ ap (ring.mul (power ring g.F.Field.half_of c.args.log)) (c.eval.ensures.value ∙ ap (eval ring c.args.values.now) c.loop-i.invariant.point))
          ∙ sym (map-range_with_len_more (coefficient ring g.F.Field.half_of inverse c.args.log c.args.values.now) 0 i i (omega arith));
    }
