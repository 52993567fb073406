use Rattle.std.proofs.Common.{◌≡◌, ◌<◌, length, arith}
use Rattle.std.proofs.lemmas.Grind.{common_steps}
use Rattle.dap_script.proofs.LineLemmas.{lines_with_last, lines_without_last}
use Rattle.dap_script.proofs.script.lines.Goals as goal
use Rattle.dap_script.proofs.script.lines.Goals.{then-not-is_empty+in_ok-push, else-not-is_empty}

pub returns : goal.returns
returns c = elim c.if-not-is_empty.branch [
  | then-not-is_empty+in_ok-push w ↦
      let some : 0 < length c.in-Some.last.now.now = grind (arith, common_steps) in
      rw (w.lines-is, w.in_ok-push.ensures.items)
      (lines_with_last c.args.bytes.now c.in_ok-pieces.pieces.items c.in-Some.ended.now c.in_ok-lines.lines.items c.in-Some.last.now
      c.in_ok-pieces.ensures (rw c.deref.ensures.value at c.in-Some.ensures.cases.0) c.in_ok-lines.ensures some)
  | else-not-is_empty w ↦
      let none : length c.in-Some.last.now.now ≡ 0 = grind (arith, common_steps) in
      rw w.lines-is
      (lines_without_last c.args.bytes.now c.in_ok-pieces.pieces.items c.in-Some.ended.now c.in_ok-lines.lines.items c.in-Some.last.now
      c.in_ok-pieces.ensures (rw c.deref.ensures.value at c.in-Some.ensures.cases.0) c.in_ok-lines.ensures none)
]
