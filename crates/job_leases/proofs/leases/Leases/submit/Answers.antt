use Rattle.std.proofs.Common.{◌≡◌, Some, sym, ap, ◌∙◌}
use Rattle.std.specs.Prelude.{position}
use Rattle.job_leases.specs.Jobs.{is_job, stage_of, moved}
use Rattle.job_leases.proofs.Places.{IsMovedAt, moved-at}
use Rattle.job_leases.proofs.leases.Leases.submit.Goals as goal

pub invariant_of-self : goal.invariant_of-self
invariant_of-self c =
    let place : position (is_job c.args.job) c.self.inside.jobs.items ≡ Some c.in_ok-at.at = ap (position (is_job c.args.job)) (sym c.deref.ensures.value) ∙ c.in_ok-at.ensures.place in
    let at : IsMovedAt c.args.job c.self.inside.jobs.items c.in_ok-at.at = moved-at c.args.job c.self.inside.jobs.items c.in_ok-at.at c.index_mut.result.now c.self.invariant place in
    at.distinct_moved c.in-Some.stage

pub invariant_of-self-in-None : goal.invariant_of-self-in-None
invariant_of-self-in-None c =
    let place : position (is_job c.args.job) c.self.inside.jobs.items ≡ Some c.in_ok-at.at = ap (position (is_job c.args.job)) (sym c.deref.ensures.value) ∙ c.in_ok-at.ensures.place in
    let at : IsMovedAt c.args.job c.self.inside.jobs.items c.in_ok-at.at = moved-at c.args.job c.self.inside.jobs.items c.in_ok-at.at c.remove.result c.self.invariant place in
    rw c.remove.ensures.items at.distinct_closed

pub returns-in-Some-clause-ok : goal.returns-in-Some-clause-ok
returns-in-Some-clause-ok c =
    let place : position (is_job c.args.job) c.self.inside.jobs.items ≡ Some c.in_ok-at.at = ap (position (is_job c.args.job)) (sym c.deref.ensures.value) ∙ c.in_ok-at.ensures.place in
    let at : IsMovedAt c.args.job c.self.inside.jobs.items c.in_ok-at.at = moved-at c.args.job c.self.inside.jobs.items c.in_ok-at.at c.index_mut.result.now c.self.invariant place in
    let stands : stage_of c.args.job c.args.self.now ≡ Some c.args.from = ap (stage_of c.args.job) (sym (c.deref.ensures.value ∙ c.self.view_is)) ∙ c.in_ok-at.ensures.ok in
    (stands, at.moved_on c.in-Some.stage ∙ ap (λ to. moved c.args.job to c.self.inside.jobs.items) (sym c.in-Some.is) ∙ ap (moved c.args.job c.args.to) c.self.view_is)

pub returns-in-None-clause-ok : goal.returns-in-None-clause-ok
returns-in-None-clause-ok c =
    let place : position (is_job c.args.job) c.self.inside.jobs.items ≡ Some c.in_ok-at.at = ap (position (is_job c.args.job)) (sym c.deref.ensures.value) ∙ c.in_ok-at.ensures.place in
    let at : IsMovedAt c.args.job c.self.inside.jobs.items c.in_ok-at.at = moved-at c.args.job c.self.inside.jobs.items c.in_ok-at.at c.remove.result c.self.invariant place in
    let stands : stage_of c.args.job c.args.self.now ≡ Some c.args.from = ap (stage_of c.args.job) (sym (c.deref.ensures.value ∙ c.self.view_is)) ∙ c.in_ok-at.ensures.ok in
    (stands, c.remove.ensures.items ∙ at.closed ∙ ap (λ to. moved c.args.job to c.self.inside.jobs.items) (sym c.in-None.is) ∙ ap (moved c.args.job c.args.to) c.self.view_is)
