use Rattle.std.proofs.Common.{Err, IfErr, ap, sym, subst, ◌∙◌}
use Rattle.std.proofs.lemmas.Result.{err_from_is_err_and}
use Rattle.dap_program.proofs.LineLemmas.{stops_script}
use Rattle.dap_program.specs.Runs.{IsScriptStop}
use Rattle.dap_program.proofs.run.run_script.Goals as goal

pub returns-in_err-lines-clause-only : goal.returns-in_err-lines-clause-only
returns-in_err-lines-clause-only g c =
    let p = err_from_is_err_and c.from_residual.result c.from_residual.ensures.1 in
    subst (λ r. IfErr r IsScriptStop) (sym (p.1 ∙ ap Err p.2)) (stops_script _ c.deref.result.now c.args.script.now c.in_err-lines.ensures.lines)
