use Rattle.std.proofs.Common.{drop, take}
use Rattle.dap_direct.proofs.RunLemmas.{IsRun}
use Rattle.dap_direct.proofs.printed.run.Given as goal

-- the lines so far, and those that are left
abbrev pub invariant-loop-line : goal.invariant-loop-line
invariant-loop-line g l =
    IsRun g.V.Vdaf.of_kind l.limits l.tasks l.script (take l.line-index l.script) (drop l.line-index l.script) l.number l.direct l.told
