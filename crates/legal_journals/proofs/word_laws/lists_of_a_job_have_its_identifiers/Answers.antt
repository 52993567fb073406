use Rattle.legal_journals.proofs.Words.{items-ids, outs-ids, statuses-ids, steps-ids, tested-ids}
use Rattle.legal_journals.proofs.word_laws.lists_of_a_job_have_its_identifiers.Goals as goal

pub returns-clause-items : goal.returns-clause-items
returns-clause-items c item reports steps e = items-ids item reports steps e

pub returns-clause-outcomes : goal.returns-clause-outcomes
returns-clause-outcomes c share reports items statuses e f = outs-ids share reports items statuses e f

pub returns-clause-steps : goal.returns-clause-steps
returns-clause-steps c step halves = steps-ids step halves

pub returns-clause-tested : goal.returns-clause-tested
returns-clause-tested c outcome precision name halves items earlier outs k = tested-ids outcome precision name halves items earlier outs k

pub returns-clause-statuses : goal.returns-clause-statuses
returns-clause-statuses c outs = statuses-ids outs
