use Rattle.std.proofs.Common.{arith}
use Rattle.dap_messages.specs.Laws.{is_found, is_only}
use Rattle.dap_messages.proofs.spelled.read_all.Goals as goal

pub returns-clause-read_as_spelled : goal.returns-clause-read_as_spelled
returns-clause-read_as_spelled g c =
    is_found g.T.Spelled.grammar g.met.T.Spelled.laws c.args.bytes.now c.read_exact.result (λ i. omega (arith, c.type_inv.bytes i)) c.read_exact.ensures

pub returns-clause-every_spelling_is_read : goal.returns-clause-every_spelling_is_read
returns-clause-every_spelling_is_read g c =
    is_only g.T.Spelled.grammar g.met.T.Spelled.laws c.args.bytes.now c.read_exact.result c.read_exact.ensures
