use Rattle.dap_model.proofs.GrowthLaws.{grows_behind, grows_over}
use Rattle.dap_model.proofs.laws.states_only_grow.Goals as goal

pub returns-clause-lines : goal.returns-clause-lines
returns-clause-lines c f state number lines = grows_over f state number lines

pub returns-clause-front : goal.returns-clause-front
returns-clause-front c f state number first rest = grows_behind f state number first rest
