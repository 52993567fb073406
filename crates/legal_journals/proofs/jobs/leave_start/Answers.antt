use Rattle.std.proofs.Common.{cond, ap, ◌∙◌}
use Rattle.legal_journals.specs.Reports.{job_order}
use Rattle.legal_journals.specs.Tables.{at, but, is_place}
use Rattle.legal_journals.proofs.jobs.leave_start.Goals as goal
use Rattle.legal_journals.proofs.jobs.leave_start.Goals.{then-is_place, else-is_place}

pub returns-clause-name : goal.returns-clause-name
returns-clause-name c q =
    let had = at job_order q c.args.names.now in
    elim c.if-is_place.branch [
      | then-is_place w ↦ rw w.names-is (w.leave.ensures q ∙ ap (λ b. cond b (but job_order q c.args.key had) had) (w.if-is_place.ensures ∙ ap (is_place c.args.place) c.get.ensures))
      | else-is_place w ↦ rw w.names-is (ap (λ b. cond b (but job_order q c.args.key had) had) (w.if-is_place.ensures ∙ ap (is_place c.args.place) c.get.ensures))
    ]
