use Rattle.dap_model.proofs.SameLaws.{run-same, step-same, valid-kept}
use Rattle.dap_model.proofs.sets.same_states_move_alike.Goals as goal

pub returns-clause-line : goal.returns-clause-line
returns-clause-line c f a b number line va vb same = step-same f a b va vb same number line

pub returns-clause-valid : goal.returns-clause-valid
returns-clause-valid c f state number line range valid = valid-kept f state number line range valid

pub returns-clause-printed : goal.returns-clause-printed
returns-clause-printed c f a b number lines range va vb same = (run-same f a b number lines range va vb same).0

pub returns-clause-after : goal.returns-clause-after
returns-clause-after c f a b number lines range va vb same = (run-same f a b number lines range va vb same).1
