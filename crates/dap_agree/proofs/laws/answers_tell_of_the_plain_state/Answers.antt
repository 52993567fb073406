use Rattle.dap_agree.proofs.Plain.{answer_tells, stands_for}
use Rattle.dap_agree.proofs.laws.answers_tell_of_the_plain_state.Goals as goal

pub returns-clause-state : goal.returns-clause-state
returns-clause-state c js legal = stands_for js legal

pub returns-clause-answers : goal.returns-clause-answers
returns-clause-answers c f js functions legal agree n span a m = answer_tells f js n span a functions legal agree m
