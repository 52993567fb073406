use Rattle.std.proofs.Common.{◌≡◌, ℕ, suc, ◌+◌, ap, ◌∙◌, sym, arith, get_or}
use Rattle.std.proofs.lemmas.List.{get_or_default}
use Rattle.field_laws.specs.Sums.{sum_to}
use Rattle.field_laws.proofs.Sums.{sum-zero, sum-suc}
use Rattle.flp_circuits.specs.Kinds.{total}
use Rattle.flp_circuits.proofs.entries.sum_all.Goals as goal

pub loop-x-init : goal.loop-x-init
unfolding total
loop-x-init g c = record { within = omega arith; sum = c.zero-sum.ensures ∙ sym (sum-zero g.met.F.Field.laws _) }

pub loop-x-preserved : goal.loop-x-preserved
unfolding total
loop-x-preserved g c =
    let ring = g.F.Field.ring in
    let xs = c.args.xs.now in
    let i : ℕ = c.loop-x.x-index in
    record {
      within = omega arith;
      sum = c.add-sum.ensures ∙ ap (λ s. ring.add s c.x-item.result) c.loop-x.invariant.sum
          ∙ ap (ring.add (total ring i xs)) (c.x-item.is ∙ get_or_default xs i c.x-item.result ring.nought (omega arith))
          ∙ sym (sum-suc g.met.F.Field.laws i _) ∙ ap (λ n. sum_to ring n (λ i. get_or xs i ring.nought)) (let e : suc i ≡ i + 1 = omega arith in e);
    }
