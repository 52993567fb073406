use Rattle.prio3_kinds.proofs.Itself.{of_kind}
use Rattle.prio3_kinds.proofs.laws.measurements_are_of_their_kind.Goals as goal

pub returns : goal.returns
returns c = of_kind
