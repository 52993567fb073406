use Rattle.std.proofs.Common.{refl}
use Rattle.dap_model.proofs.Fronts.{printed_then, state_then}
use Rattle.dap_model.proofs.laws.lines_follow_one_another.Goals as goal

pub returns-clause-printed : goal.returns-clause-printed
returns-clause-printed c f state number first rest = printed_then f state number _ first rest refl

pub returns-clause-state : goal.returns-clause-state
returns-clause-state c f state number first rest = state_then f state number _ first rest refl
