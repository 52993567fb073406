use Rattle.std.proofs.Common.{◌≡◌, ◌++◌, length, take}
use Rattle.std.specs.Int.{w16, to_be_bytes}
use Rattle.dap_messages.specs.Grammar.{spell_items}
use Rattle.dap_messages.proofs.item.ItemsSpelled.put.Given as goal

abbrev pub invariant-loop-one : goal.invariant-loop-one
invariant-loop-one g l =
    l.out.items ≡ l.fn.out.items ++ (to_be_bytes w16 (length l.items) ++ spell_items g.B.Spelled.grammar (take l.one-index l.items))
