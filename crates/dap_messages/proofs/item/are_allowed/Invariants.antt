use Rattle.std.proofs.Common.{◌≡◌, None, drop}
use Rattle.dap_messages.specs.Grammar.{allowed_items}
use Rattle.dap_messages.proofs.item.are_allowed.Given as goal

abbrev pub invariant-loop-one : goal.invariant-loop-one
invariant-loop-one g l = allowed_items g.B.Spelled.grammar l.last (drop l.one-index l.items) ≡ allowed_items g.B.Spelled.grammar None l.items
