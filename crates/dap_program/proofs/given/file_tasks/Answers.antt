use Rattle.std.proofs.Common.{Ok}
use Rattle.dap_program.proofs.FileLemmas.{gives_residual, of_file}
use Rattle.dap_program.specs.Runs.{Gives}
use Rattle.dap_program.proofs.given.file_tasks.Goals as goal

pub returns-in_err-read_tasks-clause-tasks : goal.returns-in_err-read_tasks-clause-tasks
returns-in_err-read_tasks-clause-tasks g c =
    let answer = c.from_residual-in_err-read_tasks.ensures in
    of_file (Gives _) (g.F.Files.contents c.args.files.now c.args.name.now) c.in_ok-bytes.bytes.items c.in_ok-bytes.ensures.bytes
    (gives_residual _ c.in_err-read_tasks.field-0.0 _ answer.0 answer.1 (rw c.deref.ensures.value at c.in_err-read_tasks.ensures.tasks))

pub returns-clause-tasks : goal.returns-clause-tasks
returns-clause-tasks g c = of_file (Gives (Ok c.in_ok-read_tasks.field-0)) (g.F.Files.contents c.args.files.now c.args.name.now) c.in_ok-bytes.bytes.items c.in_ok-bytes.ensures.bytes
    (rw c.deref.ensures.value at c.in_ok-read_tasks.ensures.tasks)
