use Rattle.std.proofs.Common.{None, length}
use Rattle.dap_messages.specs.Grammar.{is_between, allowed_items}
use Rattle.dap_messages.specs.Laws.{and_parts}
use Rattle.dap_messages.proofs.Loop.{bodies_allowed}
use Rattle.dap_messages.proofs.item.ItemsSpelled.put.Goals as goal

pub put_item-requires : goal.put_item-requires
put_item-requires g c =
    let given = and_parts (is_between 1 64 (length c.args.self.now)) (allowed_items g.B.Spelled.grammar None c.args.self.now) c.requires in
    rw (c.one-item.is, c.as_slice-items.ensures) (bodies_allowed g.B.Spelled.grammar c.args.self.now given.1 c.loop-one.one-index _ (rw (← c.as_slice-items.ensures) c.loop-one-test.true))
