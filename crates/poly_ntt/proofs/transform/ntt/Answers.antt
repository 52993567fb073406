use Rattle.std.proofs.Common.{◌≡◌, ℕ, ◌^◌, ◌≤◌, ap, ◌∙◌, sym, arith, length, get_or}
use Rattle.std.proofs.lemmas.List.FromFn.{fill_by_all}
use Rattle.field_laws.specs.Ring.{power}
use Rattle.field_laws.specs.Polynomial.{eval}
use Rattle.field_laws.proofs.Logs.{same_exponent}
use Rattle.poly_ntt.specs.Transform.{reversed, values_at_powers}
use Rattle.poly_ntt.proofs.Reversed.{reversed-below, reversed-again}
use Rattle.poly_ntt.proofs.Halving.{halving_at}
use Rattle.poly_ntt.proofs.transform.ntt.Goals as goal

pub returns : goal.returns
returns g c = λ log size.
    let F = g.F.Field in
    let met = g.met.F.Field in
    let p = c.args.p.now in
    let used : ℕ = c.log_of-log.result in
    let same : used ≡ log = same_exponent used log (sym c.log_of-log.ensures.value ∙ size) in
    let few : used ≤ 16 = omega (arith, c.log_of-log.ensures.few) in
    let whole : length c.reorder.new.p ≡ 2 ^ used = c.reorder.auto.p ∙ c.halve.auto.p ∙ c.log_of-log.ensures.value in
    fill_by_all (λ k. eval F.ring p (power F.ring (F.root_of used) k)) c.reorder.new.p (2 ^ used) F.ring.nought whole
    (λ k h.
    c.reorder.ensures k h ∙ ap (λ l. get_or l (reversed used k) F.ring.nought) c.halve.ensures
    ∙ halving_at met.laws F.root_of 16 met.roots used p (reversed used k) few c.log_of-log.ensures.value (reversed-below used k h)
    ∙ ap (λ n. eval F.ring p (power F.ring (F.root_of used) n)) (reversed-again used k h))
    ∙ ap (λ n. values_at_powers F.ring (F.root_of n) (2 ^ n) p) same
