use Rattle.std.proofs.Common.{sym, ◌∙◌, arith}
use Rattle.std.proofs.lemmas.Bool.{false≢true}
use Rattle.dap_tasks.proofs.DocumentLemmas.{read_as, not_read}
use Rattle.dap_tasks.proofs.file.document.Goals as goal

pub returns-in-Ok : goal.returns-in-Ok
returns-in-Ok c = sym (read_as c.args.bytes.now _ (omega arith) c.in-Ok.ensures.ok.0 c.in-Ok.ensures.ok.1)

pub returns-in-Err-2 : goal.returns-in-Err-2
returns-in-Err-2 c = sym (not_read c.args.bytes.now (omega arith) (c.in-Err.ensures.refused (λ m. absurd (false≢true (sym c.if-is_memory.false ∙ c.is_memory.ensures.1 m)))))
