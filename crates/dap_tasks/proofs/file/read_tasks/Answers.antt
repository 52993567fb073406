use Rattle.std.proofs.Common.{length}
use Rattle.toml.specs.View.{table_view}
use Rattle.dap_tasks.proofs.FileWidths.{few-tables, if_ok-more}
use Rattle.dap_tasks.proofs.file.read_tasks.Goals as goal

pub tasks-requires : goal.tasks-requires
tasks-requires c =
    let few = few-tables c.args.bytes.now (table_view c.in-Some.document) c.in-Some-2.tables.items (rw c.in-Some.is at c.in_ok-document.ensures) (rw c.in-Some-2.is at c.in_ok-tables.ensures) in
    rw c.deref.ensures.value few.1

pub returns-in-Some-2-clause-count : goal.returns-in-Some-2-clause-count
returns-in-Some-2-clause-count c =
    let few = few-tables c.args.bytes.now (table_view c.in-Some.document) c.in-Some-2.tables.items (rw c.in-Some.is at c.in_ok-document.ensures) (rw c.in-Some-2.is at c.in_ok-tables.ensures) in
    if_ok-more (λ tasks. length tasks.items) c.tasks.result (length c.deref.result.now) (length c.args.bytes.now) (rw c.deref.ensures.value few.0) c.tasks.ensures.count
