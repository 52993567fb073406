use Rattle.std.proofs.Common.{◌≡◌, drop}
use Rattle.dap_model.specs.Limits.{full_line_of}
use Rattle.dap_model.specs.State.{opening}
use Rattle.dap_program.proofs.LineLemmas.{full_counted}
use Rattle.dap_program.proofs.lines.full_line.Given as goal
use Rattle.dap_program.specs.declared.lines.TheConstants.{MAX_TASKS}

abbrev pub invariant-loop-line : goal.invariant-loop-line
invariant-loop-line l = record {
  count : l.number ≡ l.line-index;
  rest : full_counted l.known l.number (drop l.line-index l.lines) ≡ full_line_of MAX_TASKS (opening l.given) l.lines;
}
