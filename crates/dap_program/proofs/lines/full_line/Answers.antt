use Rattle.std.proofs.Common.{refl}
use Rattle.dap_program.proofs.LineLemmas.{full_line-counted}
use Rattle.dap_program.proofs.lines.full_line.Goals as goal

pub loop-line-init : goal.loop-line-init
loop-line-init c = record { count = refl; rest = full_line-counted c.args.given.now c.args.lines.now c.requires.names }
