use Rattle.std.proofs.Common.{◌≡◌, Some, None, sym, ap, ◌∙◌, rules}
use denote.Enum.Bare.{same_true, same_false}
use Rattle.job_leases.specs.declared.job.Stage.{Stage}
use Rattle.job_leases.specs.contracts.job.Stage.{the_type}
use Rattle.job_leases.proofs.Places.{stage-at, stage-none}
use Rattle.job_leases.proofs.leases.place_at.Goals as goal

pub returns-in_default-clause-stands : goal.returns-in_default-clause-stands
returns-in_default-clause-stands c = sym (stage-none c.args.job c.args.jobs.now (sym c.in_default.ensures))

pub returns-in_default-clause-stale : goal.returns-in_default-clause-stale
returns-in_default-clause-stale c e =
    let none : None ≡ Some c.args.from = sym (stage-none c.args.job c.args.jobs.now (sym c.in_default.ensures)) ∙ e in
    cc

pub returns-then-eq-clause-ok : goal.returns-then-eq-clause-ok
returns-then-eq-clause-ok c =
    stage-at c.args.job c.args.jobs.now c.in-Some.at _ (sym c.in-Some.ensures) ∙ ap Some (same_true the_type (search rules) _ c.args.from (sym c.if-eq.ensures))

pub returns-else-eq-clause-stands : goal.returns-else-eq-clause-stands
returns-else-eq-clause-stands c = sym (stage-at c.args.job c.args.jobs.now c.in-Some.at _ (sym c.in-Some.ensures))

some_same : (a b : Stage) → Some a ≡ Some b → a ≡ b
some_same a b e = cc

pub returns-else-eq-clause-stale : goal.returns-else-eq-clause-stale
returns-else-eq-clause-stale c e =
    same_false the_type _ c.args.from (sym c.if-eq.ensures) (some_same _ c.args.from (sym (stage-at c.args.job c.args.jobs.now c.in-Some.at _ (sym c.in-Some.ensures)) ∙ e))
