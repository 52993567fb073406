use Rattle.std.proofs.Common.{List, ◌++◌, ◌∙◌, sym, subst}
use Rattle.std.specs.List.{IsDistinct}
use Rattle.std.specs.Str.{bytes_eq}
use Rattle.dap_script.specs.Script.{task_names}
use Rattle.dap_script.specs.Spelling.{IsScriptBeside}
use Rattle.dap_model.specs.State.{names_of}
use Rattle.dap_program.proofs.KnownLemmas.{distinct_beside}
use Rattle.dap_program.proofs.lines.lines_run.Goals as goal

pub full_line-requires-clause-names : goal.full_line-requires-clause-names
full_line-requires-clause-names c =
    let beside : IsScriptBeside (names_of c.args.given.now) c.in_ok-lines.lines.items =
    subst (λ names. IsScriptBeside names c.in_ok-lines.lines.items) (c.deref.ensures.value ∙ c.in_ok-names.ensures)
    c.in_ok-lines.ensures.script in
    subst (λ lines. IsDistinct bytes_eq (names_of c.args.given.now ++ task_names lines)) (sym c.deref-3.ensures.value)
    (distinct_beside c.args.given.now (task_names c.in_ok-lines.lines.items) c.requires.distinct beside.others beside.is_script.distinct)
