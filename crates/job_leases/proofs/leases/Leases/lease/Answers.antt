use Rattle.std.proofs.Common.{◌≡◌, Some, None, sym, ap, ◌∙◌}
use Rattle.std.specs.Prelude.{position, find}
use Rattle.std.specs.Option.{option_map}
use Rattle.job_leases.specs.declared.job.OpenJob.{OpenJob}
use Rattle.job_leases.specs.Jobs.{is_free, first_free, leased}
use Rattle.job_leases.proofs.Places.{position-none, IsLeasedAt, leased-at}
use Rattle.job_leases.proofs.leases.Leases.lease.Goals as goal

pub returns-in_err-at-clause-oldest : goal.returns-in_err-at-clause-oldest
returns-in_err-at-clause-oldest c =
    let jobs = c.deref.result.now in
    let same : jobs ≡ c.args.self.now = c.deref.ensures.value ∙ c.self.view_is in
    let none : find (is_free c.args.turn) jobs ≡ None = position-none (is_free c.args.turn) jobs (sym c.place_of_free.ensures ∙ c.in_err-at.was) in
    c.from_residual.ensures ∙ sym (ap (first_free c.args.turn) (sym same) ∙ ap (option_map (λ (j : OpenJob). j.job)) none)

at_place : (c : goal.After-self-1) → IsLeasedAt c.args.turn (record { turn = c.args.turn; worker = c.args.worker }) c.self.inside.jobs.items c.in_ok-at.at c.index_mut-open.result.now
at_place c =
    let place : position (is_free c.args.turn) c.self.inside.jobs.items ≡ Some c.in_ok-at.at =
    ap (position (is_free c.args.turn)) (sym c.deref.ensures.value) ∙ sym c.place_of_free.ensures ∙ c.in_ok-at.was in
    leased-at c.args.turn (record { turn = c.args.turn; worker = c.args.worker }) c.self.inside.jobs.items c.in_ok-at.at c.index_mut-open.result.now c.self.invariant place c.index_mut-open.ensures.value

pub invariant_of-self : goal.invariant_of-self
invariant_of-self c = (at_place c).distinct

pub returns-clause-oldest : goal.returns-clause-oldest
returns-clause-oldest c = (at_place c).oldest ∙ ap (first_free c.args.turn) c.self.view_is

pub returns-clause-given : goal.returns-clause-given
returns-clause-given c =
    (at_place c).given ∙ ap (leased c.index_mut-open.result.now.job (record { turn = c.args.turn; worker = c.args.worker })) c.self.view_is
