-- What entering a report answers.
use Rattle.std.specs.Prelude.{◌≡◌, Option, Some, None, Result, Ok, Err}
use Rattle.dap_messages.specs.declared.job.JobNo.{JobNo}
use Rattle.replay_table.specs.declared.table.PutFault.{PutFault}
use Rattle.replay_table.specs.declared.table.PutFault.TheVariants.{There, NoMemory}

-- the report was held with the job that is named, or it wasn't held
abbrev pub Answers : Result (Unit {0}) PutFault → Option JobNo → Type 0
Answers (Ok done) held = held ≡ None
Answers (Err (There job)) held = held ≡ Some job
Answers (Err NoMemory) held = held ≡ None
