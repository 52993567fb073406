-- The tests that decide which record may follow which in the journal of a lane. Lists of records have the oldest first.
use Rattle.std.specs.Prelude.{ℕ, nat_lt, ◌==◌, Bool, true, false, not, ◌&&◌, List}
use Rattle.std.specs.List.{list_any, list_all, count_by}
use Rattle.std.specs.Str.{bytes_eq}
use Rattle.dap_messages.specs.declared.job.JobNo.{JobNo}
use Rattle.dap_messages.specs.declared.body.Half.{Half}
use Rattle.dap_messages.specs.declared.body.Step.{Step}
use Rattle.dap_messages.specs.declared.item.Tagged.{Tagged}
use Rattle.lane_records.specs.declared.outcome.Outcome.{Outcome}
use Rattle.lane_records.specs.declared.outcome.Outcome.TheVariants.{Finished, Failed}
use Rattle.lane_records.specs.declared.record.Record.{Record}
use Rattle.lane_records.specs.declared.record.Record.TheVariants.{LeaderOpen, Accept, Continue, Finish, LeaderClose, HelperOpen, Start, Commit, HelperClose}
use Rattle.legal_journals.specs.HistoryTests.{is_open, may_open, is_of_lane, has_id, same_ids}
use Rattle.dap_messages.specs.Jobs.{is_same_job}

-- ---- leader lanes

-- the Accept of this name and identifier
abbrev pub accepts : List ℕ → List ℕ → Record → Bool
accepts n id (Accept r) = bytes_eq r.name n && bytes_eq r.id id
accepts n id _ = false

-- a Continue of this name with this identifier
abbrev pub continues_report : List ℕ → List ℕ → Record → Bool
continues_report n id (Continue name j xs) = bytes_eq name n && has_id id xs
continues_report n id _ = false

-- the job's Continue
abbrev pub continues_job : JobNo → Record → Bool
continues_job j (Continue name job xs) = is_same_job job j
continues_job j _ = false

-- the job's Continue, with the identifiers of these outcomes
abbrev pub continues_with : JobNo → List (Tagged Outcome) → Record → Bool
continues_with j outs (Continue name job xs) = is_same_job job j && same_ids xs outs
continues_with j outs _ = false

-- the job's Finish
abbrev pub finishes_job : JobNo → Record → Bool
finishes_job j (Finish job outs) = is_same_job job j
finishes_job j _ = false

-- the Close of the batch of this name and start in a leader's lane
abbrev pub leader_closes : List ℕ → ℕ → Record → Bool
leader_closes n s (LeaderClose name start c) = bytes_eq name n && start == s
leader_closes n s _ = false

-- the report was accepted and not taken into a job
abbrev pub is_waiting : List ℕ → List Record → Tagged Step → Bool
is_waiting n earlier x = list_any (accepts n x.id) earlier && not (list_any (continues_report n x.id) earlier)

-- a Continue may follow: of a new job of this lane and incarnation, with reports that wait for one
abbrev pub may_continue : ℕ → List ℕ → JobNo → List (Tagged Step) → List Record → Bool
may_continue lane n j xs earlier =
    j.lane == lane && j.incarnation == count_by is_open earlier && not (list_any (continues_job j) earlier)
    && list_all (is_waiting n earlier) xs

-- the record may follow in the journal of a leader's lane
abbrev pub leader_lane_may : ℕ → Record → List Record → Bool
leader_lane_may lane (LeaderOpen f lanes own) earlier = may_open f lanes earlier && own == lane && nat_lt lane lanes
leader_lane_may lane (Accept r) earlier = is_of_lane lane r.id earlier && not (list_any (accepts r.name r.id) earlier)
leader_lane_may lane (Continue n j xs) earlier = may_continue lane n j xs earlier
leader_lane_may lane (Finish j outs) earlier = list_any (continues_with j outs) earlier && not (list_any (finishes_job j) earlier)
leader_lane_may lane (LeaderClose n s c) earlier = not (list_any (leader_closes n s) earlier)
leader_lane_may lane _ earlier = false

-- ---- helper lanes

-- the job's Start
abbrev pub starts_job : JobNo → Record → Bool
starts_job j (Start job name hs) = is_same_job job j
starts_job j _ = false

-- the job's Start, under this name
abbrev pub starts_under : List ℕ → JobNo → Record → Bool
starts_under n j (Start job name hs) = is_same_job job j && bytes_eq name n
starts_under n j _ = false

-- the job's Commit
abbrev pub commits_job : JobNo → Record → Bool
commits_job j (Commit job outs) = is_same_job job j
commits_job j _ = false

-- the outcome is finished
abbrev pub is_finished : Outcome → Bool
is_finished (Finished out) = true
is_finished (Failed c) = false

-- an outcome says that the report of this identifier was finished
abbrev pub finishes : List ℕ → List (Tagged Outcome) → Bool
finishes id outs = list_any (λ x. bytes_eq x.id id && is_finished x.body) outs

-- a Commit of a job of this name that finished the report of this identifier
abbrev pub commits_report : List ℕ → List ℕ → List Record → Record → Bool
commits_report n id earlier (Commit job outs) = finishes id outs && list_any (starts_under n job) earlier
commits_report n id earlier _ = false

-- the report of this name and identifier was finished
abbrev pub was_finished : List ℕ → List ℕ → List Record → Bool
was_finished n id earlier = list_any (commits_report n id earlier) earlier

-- the outcome isn't that of a report which was finished before
abbrev pub is_new : List ℕ → List Record → Tagged Outcome → Bool
is_new n earlier x = not (is_finished x.body && was_finished n x.id earlier)

-- the job's Start with the identifiers of these outcomes, of which none is that of a report which was finished before
abbrev pub starts_for : JobNo → List (Tagged Outcome) → List Record → Record → Bool
starts_for j outs earlier (Start job name hs) = is_same_job job j && same_ids hs outs && list_all (is_new name earlier) outs
starts_for j outs earlier _ = false

-- the Close of the batch of this name and start in a helper's lane
abbrev pub helper_closes : List ℕ → ℕ → Record → Bool
helper_closes n s (HelperClose name start c) = bytes_eq name n && start == s
helper_closes n s _ = false

-- a Start may follow: of a new job of this lane, with identifiers of the lane
abbrev pub may_start : ℕ → JobNo → List (Tagged Half) → List Record → Bool
may_start lane j hs earlier = j.lane == lane && list_all (λ x. is_of_lane lane x.id earlier) hs && not (list_any (starts_job j) earlier)

-- the record may follow in the journal of a helper's lane
abbrev pub helper_lane_may : ℕ → Record → List Record → Bool
helper_lane_may lane (HelperOpen f lanes own) earlier = may_open f lanes earlier && own == lane && nat_lt lane lanes
helper_lane_may lane (Start j n hs) earlier = may_start lane j hs earlier
helper_lane_may lane (Commit j outs) earlier = list_any (starts_for j outs earlier) earlier && not (list_any (commits_job j) earlier)
helper_lane_may lane (HelperClose n s c) earlier = not (list_any (helper_closes n s) earlier)
helper_lane_may lane _ earlier = false
