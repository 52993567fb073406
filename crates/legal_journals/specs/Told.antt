-- What a lane told of a bucket, and its numbers. Lists of records have the newest first.
use Rattle.std.specs.Prelude.{◌≡◌, ℕ, nat_eq, List, [], ◌∷◌, ◌++◌, length, Bool, false, ◌&&◌, if◌then◌else◌, Option, Some, None}
use Rattle.std.specs.List.{filter_map}
use Rattle.std.specs.Str.{bytes_eq}
use Rattle.vdaf_api.specs.Totals.{total}
use Rattle.vdaf_api.specs.declared.space.Space.{Space}
use Rattle.dap_batch.specs.Checksum.{checksum_of}
use Rattle.dap_batch.specs.Group.{batch_start}
use Rattle.dap_messages.specs.declared.body.Half.{Half}
use Rattle.dap_messages.specs.declared.body.Step.{Step}
use Rattle.dap_messages.specs.declared.item.Tagged.{Tagged}
use Rattle.dap_messages.specs.declared.job.JobNo.{JobNo}
use Rattle.dap_messages.specs.declared.report.Report.{Report}
use Rattle.dap_messages.specs.Items.{ids_of}
use Rattle.dap_messages.specs.Jobs.{is_same_job}
use Rattle.lane_records.specs.declared.closed.Closed.{Closed}
use Rattle.lane_records.specs.declared.outcome.Outcome.{Outcome}
use Rattle.lane_records.specs.declared.outcome.Outcome.TheVariants.{Finished, Failed}
use Rattle.lane_records.specs.declared.record.Record.{Record}
use Rattle.lane_records.specs.declared.record.Record.TheVariants.{Accept, Continue, Finish}
use Rattle.lane_records.specs.Records.{accept_of, continue_of, finish_of, start_of, commit_of}
use Rattle.legal_journals.specs.History.{Mem, first}

-- ---- lookups

-- the name, where the job is this one
abbrev pub name_for : JobNo → Option (List ℕ × (JobNo × List (Tagged Step))) → Option (List ℕ)
name_for j None = None
name_for j (Some p) = if is_same_job p.1.0 j then Some p.0 else None

-- the name of the job's Continue
abbrev pub name_if : JobNo → Record → Option (List ℕ)
name_if j x = name_for j (continue_of x)

-- the time, where the report has this name and identifier
abbrev pub time_for : List ℕ → List ℕ → Option Report → Option ℕ
time_for n id None = None
time_for n id (Some r) = if bytes_eq r.name n && bytes_eq r.id id then Some r.time else None

-- the time of the report that was accepted under this name and identifier
abbrev pub time_if : List ℕ → List ℕ → Record → Option ℕ
time_if n id x = time_for n id (accept_of x)

-- name and halves, where the job is this one
abbrev pub start_for : JobNo → Option (JobNo × (List ℕ × List (Tagged Half))) → Option (List ℕ × List (Tagged Half))
start_for j None = None
start_for j (Some p) = if is_same_job p.0 j then Some p.1 else None

-- name and halves of the job's Start
abbrev pub start_if : JobNo → Record → Option (List ℕ × List (Tagged Half))
start_if j x = start_for j (start_of x)

-- the time of the half, where it has this identifier
abbrev pub half_time : List ℕ → Tagged Half → Option ℕ
half_time id h = if bytes_eq h.id id then Some h.body.time else None

-- ---- what was told

-- there is a time, and by the precision it lies in the bucket of this start
abbrev pub is_time : ℕ → ℕ → Option ℕ → Bool
is_time precision s None = false
is_time precision s (Some time) = nat_eq (batch_start time precision) s

-- the outcomes whose reports' times lie in the bucket
abbrev pub of_bucket : ℕ → ℕ → (List ℕ → Option ℕ) → List (Tagged Outcome) → List (Tagged Outcome)
of_bucket precision s time [] = []
of_bucket precision s time (o ∷ outs) =
    if is_time precision s (time o.id) then o ∷ of_bucket precision s time outs else of_bucket precision s time outs

-- there is a name, and it is this one
abbrev pub is_name : List ℕ → Option (List ℕ) → Bool
is_name n None = false
is_name n (Some m) = bytes_eq m n

-- the outcomes of a Finish, where its Continue is under the name; the Continue and the Accepts stand before it
abbrev pub finish_told : ℕ → List ℕ → ℕ → List Record → Option (JobNo × List (Tagged Outcome)) → List (Tagged Outcome)
finish_told precision n s old None = []
finish_told precision n s old (Some p) = if is_name n (first (name_if p.0) old) then of_bucket precision s (λ id. first (time_if n id) old) p.1 else []

-- what a leader's lane told of the bucket under the name
abbrev pub leader_told : ℕ → List ℕ → ℕ → List Record → List (Tagged Outcome)
leader_told precision n s [] = []
leader_told precision n s (x ∷ old) = finish_told precision n s old (finish_of x) ++ leader_told precision n s old

-- the outcomes of a Commit, with the name and the times of its Start
abbrev pub of_start : ℕ → List ℕ → ℕ → Option (List ℕ × List (Tagged Half)) → List (Tagged Outcome) → List (Tagged Outcome)
of_start precision n s None outs = []
of_start precision n s (Some p) outs = if bytes_eq p.0 n then of_bucket precision s (λ id. first (half_time id) p.1) outs else []

-- those of a Commit whose Start stands before it
abbrev pub commit_told : ℕ → List ℕ → ℕ → List Record → Option (JobNo × List (Tagged Outcome)) → List (Tagged Outcome)
commit_told precision n s old None = []
commit_told precision n s old (Some p) = of_start precision n s (first (start_if p.0) old) p.1

-- what a helper's lane told of the bucket under the name
abbrev pub helper_told : ℕ → List ℕ → ℕ → List Record → List (Tagged Outcome)
helper_told precision n s [] = []
helper_told precision n s (x ∷ old) = commit_told precision n s old (commit_of x) ++ helper_told precision n s old

-- the accepted report of this identifier has its Finish
abbrev pub IsTold : List ℕ → List ℕ → List Record → Type 0
IsTold n id l = (j : JobNo) × (xs : List (Tagged Step)) × (outs : List (Tagged Outcome))
    × Mem (Continue n j xs) l × Mem id (ids_of xs) × Mem (Finish j outs) l

-- by the precision, each accepted report of the bucket has its Finish
abbrev pub AreTold : ℕ → List ℕ → ℕ → List Record → Type 0
AreTold precision n s l = (r : Report) → Mem (Accept r) l → r.name ≡ n → batch_start r.time precision ≡ s → IsTold n r.id l

-- ---- numbers

-- the out share of an outcome, where it is finished
abbrev pub share_of : Outcome → Option (List ℕ)
share_of (Finished share) = Some share
share_of (Failed c) = None

-- the identifier beside an outcome, where it is finished
abbrev pub if_finished : List ℕ → Outcome → Option (List ℕ)
if_finished id (Finished share) = Some id
if_finished id (Failed c) = None

-- and where it is failed
abbrev pub if_failed : List ℕ → Outcome → Option (List ℕ)
if_failed id (Finished share) = None
if_failed id (Failed c) = Some id

-- the identifiers of the finished reports
abbrev pub finished_ids : List (Tagged Outcome) → List (List ℕ)
finished_ids told = filter_map (λ o. if_finished o.id o.body) told

-- those of the failed ones
abbrev pub failed_ids : List (Tagged Outcome) → List (List ℕ)
failed_ids told = filter_map (λ o. if_failed o.id o.body) told

-- the out shares of the finished reports
abbrev pub shares : List (Tagged Outcome) → List (List ℕ)
shares told = filter_map (λ o. share_of o.body) told

-- the numbers of a lane and bucket
abbrev pub numbers_of : Space → List (Tagged Outcome) → Closed
numbers_of s told = record {
  count = length (finished_ids told);
  rejected = length (failed_ids told);
  checksum = checksum_of (finished_ids told);
  share = total s (shares told);
}
