use Rattle.std.proofs.Common.{arith}
use Rattle.dap_direct.proofs.SumLemmas.{ready_added, ready_kept}
use Rattle.dap_direct.proofs.sums.Sums.ready.Goals as goal

pub returns-in_ok-push : goal.returns-in_ok-push
returns-in_ok-push g c =
    ready_added _ c.args.task.now c.args.start c.args.sums.now.items c.push.new.self.items c.in_ok-none.field-0 c.place-place.result
    (rw c.deref.ensures.value at c.place-place.ensures) (omega arith)
    c.in_ok-push.ensures.items c.in_ok-none.ensures.task c.in_ok-none.ensures.start c.in_ok-none.ensures.sums

pub returns-else-place-len : goal.returns-else-place-len
returns-else-place-len g c =
    ready_kept _ c.args.task.now c.args.start c.args.sums.now.items c.place-place.result (rw c.deref.ensures.value at c.place-place.ensures)
    (λ e. c.if-place-len.false (omega arith))
