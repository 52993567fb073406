use Rattle.std.proofs.Common.{◌≡◌, ◌++◌, map, take, drop}
use Rattle.job_leases.specs.Jobs.{waits_again}
use Rattle.job_leases.proofs.leases.Leases.keep_continued.Given as goal

abbrev pub invariant-loop-open : goal.invariant-loop-open
invariant-loop-open l = l.open-items ≡ map waits_again (take l.open-index l.initial.open-items) ++ drop l.open-index l.initial.open-items
