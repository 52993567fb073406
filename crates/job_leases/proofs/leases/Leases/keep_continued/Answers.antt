use Rattle.std.proofs.Common.{◌≡◌, Bool, map, sym, ap, ◌∙◌, subst, arith, refl, rules}
use Rattle.std.specs.Prelude.{filter}
use Rattle.std.specs.Vec.{with_items}
use Rattle.std.proofs.lemmas.Fn.{filter_same}
use Rattle.std.proofs.lemmas.Grind.{common_steps}
use Rattle.std.proofs.lemmas.List.{with_items_is}
use Rattle.job_leases.specs.Jobs.{continued, is_continued, waits_again, AreDistinct}
use Rattle.job_leases.specs.declared.job.OpenJob.{OpenJob}
use Rattle.job_leases.proofs.Each.{each-more}
use Rattle.job_leases.proofs.Numbers.{distinct-filter, distinct-map}
use Rattle.job_leases.proofs.leases.Leases.keep_continued.Goals as goal

pub loop-open-preserved : goal.loop-open-preserved
loop-open-preserved c =
    each-more waits_again c.deref_mut-open-items.result.now c.loop-open.open-items c.loop-open.open-index _ c.loop-open-test.true
    (omega (arith, c.loop-open.auto.open-items)) c.loop-open.invariant

pub returns : goal.returns
returns c =
    let jobs = c.self.inside.jobs.items in
    let items = c.loop-open.open-items in
    let left = c.retain.new.self in
    let kept : left.items ≡ filter (λ j. is_continued j.stage) jobs = filter_same _ _ _ (λ x b f' k. search rules) _ _ c.retain.ensures.filtered in
    let same : c.deref_mut-open-items.result.now ≡ left.items = c.deref_mut-open-items.ensures.value in
    let all : items ≡ map waits_again left.items = grind (arith, common_steps, c.loop-open.invariant) in
    let whole : (with_items left items).items ≡ items = with_items_is left items (omega (arith, c.loop-open.auto.open-items, c.deref_mut-open-items.ensures.len)) in
    whole ∙ all ∙ ap (map waits_again) kept ∙ ap continued c.self.view_is

pub invariant_of-self : goal.invariant_of-self
invariant_of-self c =
    let jobs = c.self.inside.jobs.items in
    let past : OpenJob → Bool = λ j. is_continued j.stage in
    subst AreDistinct (sym (returns c ∙ ap continued (sym c.self.view_is))) (distinct-map waits_again (filter past jobs) (λ j. refl) (distinct-filter past jobs c.self.invariant))
