use Rattle.std.proofs.Common.{◌≡◌, ◌+◌, drop}
use Rattle.dap_program.specs.Lines.{later_from, later_line_of}
use Rattle.dap_program.proofs.lines.later_line.Given as goal

abbrev pub invariant-loop-line : goal.invariant-loop-line
invariant-loop-line l = record {
  count : l.number ≡ l.line-index + 1;
  rest : later_from l.number (drop l.line-index l.lines) ≡ later_line_of l.lines;
}
