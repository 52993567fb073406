use Rattle.std.proofs.Common.{[], ◌++◌, inl, inr, ⊎_elim, ap}
use Rattle.dap_model.specs.Run.{tasks_of}
use Rattle.dap_script.specs.Script.{task_names}
use Rattle.dap_program.proofs.KnownLemmas.{distinct_beside, passed_two_or_three}
use Rattle.dap_program.specs.declared.status.Status.TheVariants.{Limit}
use Rattle.dap_program.proofs.run.run_lines.Goals as goal

pub printed_text-requires-clause-names : goal.printed_text-requires-clause-names
printed_text-requires-clause-names g c =
    distinct_beside c.args.given.items (task_names c.args.lines.now) c.requires.distinct c.requires.script.others c.requires.script.is_script.distinct

pub returns-in_ok-write_all-in-Err-Limit-clause-only : goal.returns-in_ok-write_all-in-Err-Limit-clause-only
returns-in_ok-write_all-in-Err-Limit-clause-only g c =
    let told = rw c.in-Err-Limit.field-0-is at c.in-Err-Limit.ensures in
    let limit = passed_two_or_three (c.args.given.items ++ tasks_of c.args.lines.now) [] c.args.lines.now (record { line = c.in-Err-Limit.line; limit = c.in-Err-Limit.limit }) told.0 in
    inl (c.in-Err-Limit.line, ⊎_elim (λ two. inl (ap (Limit c.in-Err-Limit.line) two)) (λ three. inr (ap (Limit c.in-Err-Limit.line) three)) limit)
