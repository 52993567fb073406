use Rattle.std.proofs.Common.{ap, ◌∙◌}
use Rattle.std.specs.Ordering.{is_eq}
use Rattle.legal_journals.specs.Reports.{job_order}
use Rattle.legal_journals.specs.Tables.{at, without}
use Rattle.legal_journals.proofs.Amongs.{undone}
use Rattle.legal_journals.proofs.jobs.enter_start.Goals as goal

pub returns-then-is_err-clause-err : goal.returns-then-is_err-clause-err
returns-then-is_err-clause-err c new q =
    let tie = is_eq (job_order c.args.key q) in
    c.leave_at.ensures q ∙ ap (without c.args.place tie) (c.in_ok-enter.ensures.ok q) ∙ undone (at job_order q c.args.started.now) c.args.place tie tie (λ e. e) (new q)
