use Rattle.std.proofs.Common.{◌≡◌, ℕ, suc, ◌+◌, ap, ◌∙◌, sym, arith, get_or}
use Rattle.std.proofs.lemmas.List.{get_or_default}
use Rattle.field_laws.specs.Ring.{power}
use Rattle.field_laws.proofs.Powers.{power-zero, power-suc}
use Rattle.field_laws.specs.Sums.{sum_to}
use Rattle.field_laws.proofs.Sums.{sum-zero, sum-suc}
use Rattle.flp_circuits.specs.Kinds.{weighted}
use Rattle.flp_circuits.proofs.entries.weigh.Goals as goal

pub loop-x-init : goal.loop-x-init
unfolding weighted
loop-x-init g c =
    let ring = g.F.Field.ring in
    let laws = g.met.F.Field.laws in
    record {
      within = omega arith;
      weight = sym (ap (ring.mul c.args.first) (power-zero laws c.args.ratio) ∙ laws.mul-unit c.args.first);
      sum = c.zero-sum.ensures ∙ sym (sum-zero laws _);
    }

pub loop-x-preserved : goal.loop-x-preserved
unfolding weighted
loop-x-preserved g c =
    let ring = g.F.Field.ring in
    let laws = g.met.F.Field.laws in
    let xs = c.args.xs.now in
    let first = c.args.first in
    let ratio = c.args.ratio in
    let i : ℕ = c.loop-x.x-index in
    let w : ℕ → g.row.F.Denot = λ i. ring.mul first (power ring ratio i) in
    record {
      within = omega arith;
      weight = c.mul-weight.ensures ∙ ap (λ p. ring.mul p ratio) c.loop-x.invariant.weight ∙ laws.mul_assoc first (power ring ratio i) ratio
          ∙ ap (ring.mul first) (laws.mul_comm _ _ ∙ sym (power-suc laws ratio i) ∙ ap (power ring ratio) (let e : suc i ≡ i + 1 = omega arith in e));
      sum = c.add-sum.ensures ∙ ap (λ s. ring.add s c.mul.result) c.loop-x.invariant.sum
          ∙ ap (ring.add (weighted ring w i xs))
          (c.mul.ensures ∙ ap (λ p. ring.mul p c.x-item.result) c.loop-x.invariant.weight
          ∙ ap (ring.mul (w i)) (c.x-item.is ∙ get_or_default xs i c.x-item.result ring.nought (omega arith)))
          ∙ sym (sum-suc laws i _) ∙ ap (λ n. sum_to ring n (λ i. ring.mul (w i) (get_or xs i ring.nought))) (let e : suc i ≡ i + 1 = omega arith in e);
    }
