use Rattle.std.proofs.Common.{◌≡◌, ◌-◌, None}
use Rattle.dap_messages.specs.Grammar.{items_at}
use Rattle.dap_messages.proofs.Loop.{with_front}
use Rattle.dap_messages.proofs.item.read_items.Given as goal

abbrev pub invariant-loop : goal.invariant-loop
invariant-loop g l =
    with_front l.items.items (items_at g.B.Spelled.grammar l.last (l.count - l.counter) l.cursor) ≡ items_at g.B.Spelled.grammar None l.count l.fn.cursor
