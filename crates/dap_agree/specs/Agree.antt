-- Agreement of the journals of a pair of lanes: the counterpart of each record, by cases. Lists of records have the newest first.
use Rattle.std.specs.Prelude.{◌≡◌, ℕ, ◌≤◌, IsTrue, List, [], ◌∷◌, Option, Some}
use Rattle.dap_bytes.specs.declared.span.Span.{Span}
use Rattle.dap_bytes.specs.Spans.{holds_bucket}
use Rattle.dap_batch.specs.Group.{batch_start}
use Rattle.vdaf_api.specs.Functions.{Functions}
use Rattle.vdaf_api.specs.Vectors.{IsOut}
use Rattle.vdaf_api.specs.declared.kind.Kind.{Kind}
use Rattle.dap_messages.specs.declared.body.Half.{Half}
use Rattle.dap_messages.specs.declared.body.Step.{Step}
use Rattle.dap_messages.specs.declared.item.Tagged.{Tagged}
use Rattle.dap_messages.specs.declared.job.JobNo.{JobNo}
use Rattle.dap_messages.specs.declared.report.Report.{Report}
use Rattle.dap_messages.specs.Items.{ids_of}
use Rattle.dap_messages.specs.Reports.{report_ids, halves}
use Rattle.dap_tasks.specs.Task.{PlainTask}
use Rattle.lane_records.specs.declared.closed.Closed.{Closed}
use Rattle.lane_records.specs.declared.outcome.Outcome.{Outcome}
use Rattle.lane_records.specs.declared.record.Record.{Record}
use Rattle.lane_records.specs.declared.record.Record.TheVariants.{Accept, Continue, Finish, LeaderClose, Start, Commit, HelperClose}
use Rattle.legal_journals.specs.History.{Mem, opens}
use Rattle.legal_journals.specs.JobReports.{each_of, Accepted, told_statuses}
use Rattle.legal_journals.specs.LegalLanes.{IsLeaderClosed}
use Rattle.legal_journals.specs.Told.{leader_told, helper_told, numbers_of, IsTold, AreTold}
use Rattle.dap_agree.specs.Verdicts.{item_of, helper_outcome, HaveShares}

-- a batch of a task's name: some buckets, one behind the other
pub record Batch : Type 0 where
  pub name : List ℕ
  pub span : Span

-- what the fronts hold: the whole task of each name that is stored, and the batches asked for
pub record Fronts : Type 0 where
  pub task : List ℕ → Option PlainTask
  pub asked : List Batch

-- a batch that was asked for under the name holds the bucket of this start
abbrev pub IsAsked : Fronts → PlainTask → List ℕ → ℕ → Type 0
IsAsked fr t n s = (b : Batch) × Mem b fr.asked × (b.name ≡ n) × IsTrue (holds_bucket b.span t.precision s)

-- ---- the rows

-- an Accept: its task is stored, and no Close of its bucket stands before it
abbrev pub AcceptFits : Fronts → Report → List Record → Type 0
AcceptFits fr r old = (t : PlainTask) × (fr.task r.name ≡ Some t) × ¬ (IsLeaderClosed r.name (batch_start r.time t.precision) old)

-- a Continue: the helper's Start of the job has this name and these identifiers, and each item is the leader's
abbrev pub ContinueFits : (Kind → Functions) → Fronts → List Record → List Record → List ℕ → JobNo → List (Tagged Step) → Type 0
ContinueFits f fr l h n j xs =
    (t : PlainTask) × (fr.task n ≡ Some t)
    × ((rs : List Report) × Accepted n rs l × (xs ≡ each_of (item_of f t) rs)
    × ((hs : List (Tagged Half)) × Mem (Start j n hs) h × (ids_of hs ≡ ids_of xs)))

-- a Finish: the helper's Commit of the job has the same outcomes, and each finished out share is the leader's
abbrev pub FinishFits : (Kind → Functions) → Fronts → List Record → List Record → JobNo → List (Tagged Outcome) → Type 0
FinishFits f fr l h j outs =
    (n : List ℕ) × (t : PlainTask) × (fr.task n ≡ Some t)
    × ((rs : List Report) × Accepted n rs l × (ids_of outs ≡ report_ids rs) × HaveShares f t rs outs
    × ((xs : List (Tagged Step)) × Mem (Continue n j xs) l)
    × ((told : List (Tagged Outcome)) × Mem (Commit j told) h × (told_statuses told ≡ told_statuses outs)))

-- a leader's Close: its bucket is asked for, each of its Accepts before it has its Finish, and the fields are the lane's numbers before it
abbrev pub LeaderCloseFits : (Kind → Functions) → Fronts → List ℕ → ℕ → Closed → List Record → Type 0
LeaderCloseFits f fr n s c old =
    (t : PlainTask) × (fr.task n ≡ Some t) × IsAsked fr t n s × AreTold t.precision n s old
    × (c ≡ numbers_of (f t.kind).space (leader_told t.precision n s old)) × IsOut (f t.kind).space c.share

-- a Start: its incarnation is one of the leader's, and the halves are those of accepted reports
abbrev pub StartFits : Fronts → List Record → JobNo → List ℕ → List (Tagged Half) → Type 0
StartFits fr l j n hs =
    (1 ≤ j.incarnation) × (j.incarnation ≤ opens l) × ((t : PlainTask) × (fr.task n ≡ Some t))
    × ((rs : List Report) × Accepted n rs l × (hs ≡ halves rs))

-- a Commit: the leader's Continue of the job has these identifiers, and each outcome is the verdict, with the helper's out share
abbrev pub CommitFits : (Kind → Functions) → Fronts → List Record → JobNo → List (Tagged Outcome) → Type 0
CommitFits f fr l j outs =
    (n : List ℕ) × (t : PlainTask) × (fr.task n ≡ Some t)
    × ((rs : List Report) × Accepted n rs l × (outs ≡ each_of (helper_outcome f t) rs)
    × ((xs : List (Tagged Step)) × Mem (Continue n j xs) l × (ids_of xs ≡ ids_of outs)))

-- a helper's Close: the leader's Close counts the same, and the fields are the numbers over the Commits before it
abbrev pub HelperCloseFits : (Kind → Functions) → Fronts → List Record → List ℕ → ℕ → Closed → List Record → Type 0
HelperCloseFits f fr l n s c old =
    (t : PlainTask) × (fr.task n ≡ Some t)
    × ((d : Closed) × Mem (LeaderClose n s d) l × (d.count ≡ c.count) × (d.rejected ≡ c.rejected) × (d.checksum ≡ c.checksum))
    × (c ≡ numbers_of (f t.kind).space (helper_told t.precision n s old)) × IsOut (f t.kind).space c.share

-- ---- a pair of lanes

-- what a leader's record has in the leader's list l and the helper's list h, where the records before it are old
abbrev pub LeaderFits : (Kind → Functions) → Fronts → List Record → List Record → Record → List Record → Type 0
LeaderFits f fr l h (Accept r) old = AcceptFits fr r old
LeaderFits f fr l h (Continue n j xs) old = ContinueFits f fr l h n j xs
LeaderFits f fr l h (Finish j outs) old = FinishFits f fr l h j outs
LeaderFits f fr l h (LeaderClose n s c) old = LeaderCloseFits f fr n s c old
LeaderFits f fr l h _ old = Unit {0}

-- what a helper's record has
abbrev pub HelperFits : (Kind → Functions) → Fronts → List Record → Record → List Record → Type 0
HelperFits f fr l (Start j n hs) old = StartFits fr l j n hs
HelperFits f fr l (Commit j outs) old = CommitFits f fr l j outs
HelperFits f fr l (HelperClose n s c) old = HelperCloseFits f fr l n s c old
HelperFits f fr l _ old = Unit {0}

-- each record of the leader's part of a list, the last one given, has its counterpart
abbrev pub LeaderAgrees : (Kind → Functions) → Fronts → List Record → List Record → List Record → Type 0
LeaderAgrees f fr l h [] = Unit {0}
LeaderAgrees f fr l h (x ∷ old) = LeaderFits f fr l h x old × LeaderAgrees f fr l h old

-- the same of a helper's
abbrev pub HelperAgrees : (Kind → Functions) → Fronts → List Record → List Record → Type 0
HelperAgrees f fr l [] = Unit {0}
HelperAgrees f fr l (x ∷ old) = HelperFits f fr l x old × HelperAgrees f fr l old

-- the leader's list and the helper's of one number, where a leader's Close counts what stands before it
abbrev pub LanesFit : (Kind → Functions) → Fronts → List Record → List Record → Type 0
LanesFit f fr l h = LeaderAgrees f fr l h l × HelperAgrees f fr l h

-- ---- in the words of agreement

-- each Accept of the bucket in the lane has its Finish before the Close, and the fields are the numbers of the whole lane
abbrev pub LeaderCloseCounts : (Kind → Functions) → Fronts → List Record → List ℕ → ℕ → Closed → List Record → Type 0
LeaderCloseCounts f fr l n s c old =
    (t : PlainTask) × (fr.task n ≡ Some t) × IsAsked fr t n s
    × ((r : Report) → Mem (Accept r) l → r.name ≡ n → batch_start r.time t.precision ≡ s → IsTold n r.id old)
    × (c ≡ numbers_of (f t.kind).space (leader_told t.precision n s l)) × IsOut (f t.kind).space c.share

-- the counterpart of a leader's record
abbrev pub LeaderHas : (Kind → Functions) → Fronts → List Record → List Record → Record → List Record → Type 0
LeaderHas f fr l h (LeaderClose n s c) old = LeaderCloseCounts f fr l n s c old
LeaderHas f fr l h x old = LeaderFits f fr l h x old

-- each record of the last list has it
abbrev pub LeaderAllHave : (Kind → Functions) → Fronts → List Record → List Record → List Record → Type 0
LeaderAllHave f fr l h [] = Unit {0}
LeaderAllHave f fr l h (x ∷ old) = LeaderHas f fr l h x old × LeaderAllHave f fr l h old

-- each record of both lists has its counterpart
abbrev pub LanesAgree : (Kind → Functions) → Fronts → List Record → List Record → Type 0
LanesAgree f fr l h = LeaderAllHave f fr l h l × HelperAgrees f fr l h
