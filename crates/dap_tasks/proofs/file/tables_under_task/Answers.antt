use Rattle.std.proofs.Common.{◌≡◌, true, false, length, nat_eq, sym, arith}
use Rattle.std.proofs.lemmas.Bool.Decides.{nat_tests}
use Rattle.dap_tasks.proofs.DocumentLemmas.{tables_under-one, tables_under-others}
use Rattle.dap_tasks.proofs.file.tables_under_task.Goals as goal

pub returns-then-len-ne1 : goal.returns-then-len-ne1
returns-then-len-ne1 c =
    let others : nat_eq (length c.args.document.now.entries) 1 ≡ false = grind (arith, nat_tests) in
    sym (tables_under-others c.args.document.now.entries others)

pub returns-in-Some : goal.returns-in-Some
returns-in-Some c =
    let one : nat_eq (length c.args.document.now.entries) 1 ≡ true = grind (arith, nat_tests) in
    let found = rw c.in-Some.is at c.array_at.ensures in
    rw (tables_under-one c.args.document.now.entries one, ← found) c.tables.ensures
