use Rattle.std.proofs.Common.{refl}
use Rattle.dap_tasks.proofs.JudgedLemmas.{judged_again, judged_early, judged_expired, judged_conflict}
use Rattle.dap_tasks.proofs.laws.the_first_cause_counts.Goals as goal

pub returns-clause-again : goal.returns-clause-again
returns-clause-again c = judged_again

pub returns-clause-early : goal.returns-clause-early
returns-clause-early c = judged_early

pub returns-clause-expired : goal.returns-clause-expired
returns-clause-expired c = judged_expired

pub returns-clause-conflict : goal.returns-clause-conflict
returns-clause-conflict c = judged_conflict

pub returns-clause-collected : goal.returns-clause-collected
returns-clause-collected c moment expires bytes time timely running = rw (timely, running) refl

pub returns-clause-added : goal.returns-clause-added
returns-clause-added c moment expires bytes time timely running = rw (timely, running) refl
