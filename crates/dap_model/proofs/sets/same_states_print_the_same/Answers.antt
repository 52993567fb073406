use Rattle.dap_model.proofs.SameLaws.{before-same, full-same, passed-same, text-same}
use Rattle.dap_model.proofs.sets.same_states_print_the_same.Goals as goal

pub returns-clause-text : goal.returns-clause-text
returns-clause-text c f a b lines range va vb same = text-same f a b lines range va vb same

pub returns-clause-before : goal.returns-clause-before
returns-clause-before c f a b lines number range va vb same = before-same f a b lines number range va vb same

pub returns-clause-passed : goal.returns-clause-passed
returns-clause-passed c f limits a b lines same = passed-same f limits a b lines same

pub returns-clause-full : goal.returns-clause-full
returns-clause-full c most a b lines same = full-same most a b lines same
