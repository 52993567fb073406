use Rattle.std.proofs.Common.{◌≡◌, ℕ, ◌-◌, ◌^◌, ◌≤◌, ap, ◌∙◌, sym, subst, arith}
use Rattle.std.proofs.lemmas.Result.{IfOk-weaker}
use Rattle.field_laws.specs.Ring.{power}
use Rattle.field_laws.specs.Interpolation.{interpolation, Interpolates}
use Rattle.field_laws.proofs.Logs.{same_exponent}
use Rattle.field_laws.proofs.Interpolation.{roots_at, interpolation_exact}
use Rattle.poly_plain.proofs.interpolated.interpolate.Goals as goal

pub returns : goal.returns
returns g c = λ log size.
    let F = g.F.Field in
    let met = g.met.F.Field in
    let used : ℕ = c.log_of-log.result in
    let same : used ≡ log = same_exponent used log (sym c.log_of-log.ensures.value ∙ size) in
    let y = power F.ring (F.root_of log) (2 ^ log - 1) in
    let few : log ≤ 16 = omega (arith, c.log_of-log.ensures.few) in
    IfOk-weaker c.coefficients.result _ _
    (λ p e. subst (Interpolates F.ring (F.root_of log) c.args.values.now) (sym (e ∙ ap (λ l. interpolation F.ring F.half_of (power F.ring (F.root_of l) (2 ^ l - 1)) l c.args.values.now) same))
    (interpolation_exact met.laws F.half_of (F.root_of log) y log c.args.values.now (roots_at met.laws F.half_of 16 F.root_of log met.halves met.roots few) size))
    c.coefficients.ensures
