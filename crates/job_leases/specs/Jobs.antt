-- Open jobs, their stages and their leases.
use Rattle.std.specs.Prelude.{◌≡◌, ℕ, ◌+◌, List, [], ◌∷◌, map, filter, find, Bool, true, false, not, ◌&&◌, if◌then◌else◌, nat_lt, Option, Some, None}
use Rattle.std.specs.Option.{option_map}
use Rattle.dap_messages.specs.declared.job.JobNo.{JobNo}
use Rattle.dap_messages.specs.Jobs.{is_same_job}
use Rattle.job_leases.specs.declared.job.TheConstants.Lease.{TURNS}
use Rattle.job_leases.specs.declared.job.Stage.{Stage}
use Rattle.job_leases.specs.declared.job.Stage.TheVariants.{AwaitInit, Combine, AwaitCont, Finish}
use Rattle.job_leases.specs.declared.job.Lease.{Lease}
use Rattle.job_leases.specs.declared.job.OpenJob.{OpenJob}

-- the job has this number
abbrev pub is_job : JobNo → OpenJob → Bool
is_job job j = is_same_job job j.job

-- no job has this number
abbrev pub IsNew : JobNo → List OpenJob → Type 0
IsNew job [] = Unit {0}
IsNew job (j ∷ js) = (is_job job j ≡ false) × IsNew job js

-- no two jobs have one number
abbrev pub AreDistinct : List OpenJob → Type 0
AreDistinct [] = Unit {0}
AreDistinct (j ∷ js) = IsNew j.job js × AreDistinct js

-- a job at this stage waits for a worker
abbrev pub waits_for_worker : Stage → Bool
waits_for_worker AwaitInit = false
waits_for_worker Combine = true
waits_for_worker AwaitCont = false
waits_for_worker Finish = true

-- the lease stands at this turn: it was given fewer turns before than a lease stands for
abbrev pub stands_at : ℕ → Option Lease → Bool
stands_at turn None = false
stands_at turn (Some lease) = nat_lt turn (lease.turn + TURNS)

-- a worker can take the job up
abbrev pub is_free : ℕ → OpenJob → Bool
is_free turn j = waits_for_worker j.stage && not (stands_at turn j.lease)

-- the number of the oldest job that a worker can take up
abbrev pub first_free : ℕ → List OpenJob → Option JobNo
first_free turn jobs = option_map (λ j. j.job) (find (is_free turn) jobs)

-- at which stage a job stands, if it is open
abbrev pub stage_of : JobNo → List OpenJob → Option Stage
stage_of job jobs = option_map (λ j. j.stage) (find (is_job job) jobs)

-- a job that is opened
abbrev pub newly_open : JobNo → OpenJob
newly_open job = record { job = job; stage = AwaitInit; lease = None }

-- the job without a lease
abbrev pub unleased : OpenJob → OpenJob
unleased j = record { job = j.job; stage = j.stage; lease = None }

-- the jobs after one of them is changed
abbrev pub changed : JobNo → (OpenJob → OpenJob) → List OpenJob → List OpenJob
changed job change jobs = map (λ j. if is_job job j then change j else j) jobs

-- the jobs after one of them is given this lease
abbrev pub leased : JobNo → Lease → List OpenJob → List OpenJob
leased job lease jobs = changed job (λ j. record { job = j.job; stage = j.stage; lease = Some lease }) jobs

-- the jobs after one of them is moved to a stage, or closed
abbrev pub moved : JobNo → Option Stage → List OpenJob → List OpenJob
moved job (Some stage) jobs = changed job (λ _. record { job = job; stage = stage; lease = None }) jobs
moved job None jobs = filter (λ j. not (is_job job j)) jobs

-- a job at this stage is past its Continue
abbrev pub is_continued : Stage → Bool
is_continued AwaitInit = false
is_continued Combine = false
is_continued AwaitCont = true
is_continued Finish = true

-- the job waits for the helper's answer to its ContReq, without a lease
abbrev pub waits_again : OpenJob → OpenJob
waits_again j = record { job = j.job; stage = AwaitCont; lease = None }

-- the jobs past their Continue, each of which waits again
abbrev pub continued : List OpenJob → List OpenJob
continued jobs = map waits_again (filter (λ j. is_continued j.stage) jobs)
