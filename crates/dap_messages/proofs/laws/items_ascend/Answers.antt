use Rattle.dap_messages.proofs.Ascending.{items_ascend}
use Rattle.dap_messages.proofs.laws.items_ascend.Goals as goal

pub returns : goal.returns
returns g c = items_ascend g.B.Spelled.grammar
