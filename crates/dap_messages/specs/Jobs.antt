-- Numbers of jobs.
use Rattle.std.specs.Prelude.{nat_eq, Bool, ◌&&◌}
use Rattle.dap_messages.specs.declared.job.JobNo.{JobNo}

-- the two numbers are one job's
abbrev pub is_same_job : JobNo → JobNo → Bool
is_same_job a b = nat_eq a.lane b.lane && nat_eq a.incarnation b.incarnation && nat_eq a.counter b.counter
