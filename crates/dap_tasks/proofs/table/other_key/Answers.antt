use Rattle.std.proofs.Common.{refl, sym, ◌∙◌}
use Rattle.dap_tasks.specs.Fields.{is_other}
use Rattle.dap_tasks.proofs.OtherLemmas.{table_keys-view, first_of-found, first_of-passed, sorted-after}
use Rattle.dap_tasks.proofs.table.other_key.Goals as goal

pub loop-key-init : goal.loop-key-init
loop-key-init c =
    rw (c.into_iter-key-iterator.ensures.into_iter_gives, c.keys-key-items.ensures.rest, table_keys-view c.args.table.now.entries)
    (tt, tt, c.keys-key-items.ensures.ordered, refl)

pub returns-then-is_other : goal.returns-then-is_other
returns-then-is_other c =
    let passes = rw c.as_str.ensures.value at (sym c.is_other.ensures ∙ c.if-is_other.true) in
    let sorted = rw c.in-Some.ensures.steps at c.loop-key.invariant.2 in
    let found = rw c.in-Some.ensures.steps at c.loop-key.invariant.3 in
    rw c.as_str-then-is_other.ensures.value (first_of-found (is_other c.args.kind.now) c.in-Some.key.now c.next.new.self passes sorted ∙ found)

pub loop-key-preserved : goal.loop-key-preserved
loop-key-preserved c =
    let passed = rw c.as_str.ensures.value at (sym c.is_other.ensures ∙ c.if-is_other.false) in
    let sorted = rw c.in-Some.ensures.steps at c.loop-key.invariant.2 in
    let found = rw c.in-Some.ensures.steps at c.loop-key.invariant.3 in
    (tt, tt, sorted-after c.in-Some.key.now c.next.new.self sorted, sym (first_of-passed (is_other c.args.kind.now) c.in-Some.key.now c.next.new.self passed) ∙ found)
