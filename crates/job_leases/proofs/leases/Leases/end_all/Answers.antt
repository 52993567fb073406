use Rattle.std.proofs.Common.{◌≡◌, map, sym, ◌∙◌, subst, arith, refl}
use Rattle.std.specs.Vec.{with_items}
use Rattle.std.proofs.lemmas.Grind.{common_steps}
use Rattle.std.proofs.lemmas.List.{with_items_is}
use Rattle.job_leases.specs.Jobs.{AreDistinct, unleased}
use Rattle.job_leases.proofs.Each.{each-more}
use Rattle.job_leases.proofs.Numbers.{distinct-map}
use Rattle.job_leases.proofs.leases.Leases.end_all.Goals as goal

pub loop-open-preserved : goal.loop-open-preserved
loop-open-preserved c =
    each-more unleased c.deref_mut-open-items.result.now c.loop-open.open-items c.loop-open.open-index _ c.loop-open-test.true
    (omega (arith, c.loop-open.auto.open-items)) c.loop-open.invariant

pub invariant_of-self : goal.invariant_of-self
invariant_of-self c =
    let jobs = c.self.inside.jobs.items in
    let items = c.loop-open.open-items in
    let same : c.deref_mut-open-items.result.now ≡ jobs = c.deref_mut-open-items.ensures.value in
    let all : items ≡ map unleased jobs = grind (arith, common_steps, c.loop-open.invariant) in
    let whole : (with_items c.self.inside.jobs items).items ≡ items = with_items_is c.self.inside.jobs items (omega (arith, c.loop-open.auto.open-items, c.deref_mut-open-items.ensures.len)) in
    subst AreDistinct (sym (whole ∙ all)) (distinct-map unleased jobs (λ j. refl) c.self.invariant)
