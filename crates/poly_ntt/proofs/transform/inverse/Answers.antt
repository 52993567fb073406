use Rattle.std.proofs.Common.{◌≡◌, ◌^◌, ◌≤◌, ap, ◌∙◌, sym, subst, arith, length}
use Rattle.field_laws.specs.Ring.{power}
use Rattle.field_laws.specs.Polynomial.{scale}
use Rattle.field_laws.proofs.Logs.{same_exponent}
use Rattle.poly_ntt.specs.Transform.{values_at_powers, ReversesRest}
use Rattle.poly_ntt.proofs.Backward.{inverse_is}
use Rattle.poly_ntt.proofs.transform.inverse.Goals as goal

pub returns : goal.returns
returns g c = λ log size.
    let F = g.F.Field in
    let met = g.met.F.Field in
    let nought = F.ring.nought in
    let values = c.args.values.now in
    let same : c.log_of-log.result ≡ log = same_exponent c.log_of-log.result log (sym c.log_of-log.ensures.value ∙ size) in
    let few : log ≤ 16 = omega (arith, c.log_of-log.ensures.few) in
    let count : length c.scale_all.new.p ≡ 2 ^ log = c.scale_all.auto.p ∙ c.ntt.auto.p ∙ size in
    let factor : c.pow.result ≡ power F.ring F.half_of log = (rw (c.half.ensures, c.from.ensures) at c.pow.ensures) ∙ ap (power F.ring F.half_of) same in
    let scaled : c.scale_all.new.p ≡ scale F.ring (power F.ring F.half_of log) (values_at_powers F.ring (F.root_of log) (2 ^ log) values) =
    c.scale_all.ensures ∙ ap (λ h. scale F.ring h c.ntt.new.p) factor ∙ ap (scale F.ring (power F.ring F.half_of log)) (c.ntt.ensures log size) in
    inverse_is met.laws F.half_of F.root_of log values c.reverse_rest.new.p met.halves met.roots few size
    (subst (λ l. ReversesRest nought (2 ^ log) l c.reverse_rest.new.p) scaled (subst (λ n. ReversesRest nought n c.scale_all.new.p c.reverse_rest.new.p) count c.reverse_rest.ensures))
