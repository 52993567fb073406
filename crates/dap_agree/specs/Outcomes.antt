-- What legal lanes that agree say of a task's reports: outcomes, commits and numbers by the verdicts. Lists of records have the newest first.
use Rattle.std.specs.Prelude.{◌≡◌, ℕ, nat_eq, List, [], ◌∷◌, ◌++◌, length, map, filter, Bool, ◌&&◌, if◌then◌else◌, is_some, is_none, Option, Some, None}
use Rattle.std.specs.Str.{bytes_eq}
use Rattle.vdaf_api.specs.Functions.{Functions}
use Rattle.vdaf_api.specs.Totals.{Pair, total}
use Rattle.vdaf_api.specs.Verdict.{Verdict, ok, bad}
use Rattle.vdaf_api.specs.declared.kind.Kind.{Kind}
use Rattle.dap_batch.specs.Group.{batch_start}
use Rattle.dap_messages.specs.declared.body.Half.{Half}
use Rattle.dap_messages.specs.declared.body.Step.{Step}
use Rattle.dap_messages.specs.declared.item.Tagged.{Tagged}
use Rattle.dap_messages.specs.declared.job.JobNo.{JobNo}
use Rattle.dap_messages.specs.declared.report.Report.{Report}
use Rattle.dap_messages.specs.Items.{ids_of}
use Rattle.dap_tasks.specs.Task.{PlainTask}
use Rattle.dap_seal.specs.Reports as seal
use Rattle.lane_records.specs.declared.closed.Closed.{Closed}
use Rattle.lane_records.specs.declared.outcome.Outcome.{Outcome}
use Rattle.lane_records.specs.declared.outcome.Outcome.TheVariants.{Finished, Failed}
use Rattle.lane_records.specs.declared.record.Record.{Record}
use Rattle.lane_records.specs.declared.record.Record.TheVariants.{Accept, Continue, Finish}
use Rattle.legal_journals.specs.History.{Mem, first}
use Rattle.lane_records.specs.Records.{commit_of}
use Rattle.legal_journals.specs.Told.{IsTold, start_if, finished_ids, failed_ids, shares, leader_told, helper_told}
use Rattle.dap_agree.specs.Lists.{Distinct}

-- each accepted report of the name has its Finish
abbrev pub AllTold : List ℕ → List Record → Type 0
AllTold n l = (r : Report) → Mem (Accept r) l → r.name ≡ n → IsTold n r.id l

-- ---- by the verdicts

-- the outcome is the report's verdict, a finished one with the leader's out share
abbrev pub IsOutcome : (Kind → Functions) → PlainTask → Report → Outcome → Type 0
IsOutcome f t r (Finished share) = (helper : List ℕ) × (seal.verdict_of (f t.kind) t r ≡ ok share helper)
IsOutcome f t r (Failed c) = (code : ℕ) × (seal.verdict_of (f t.kind) t r ≡ bad code)

-- with the helper's
abbrev pub IsHelperOutcome : (Kind → Functions) → PlainTask → Report → Outcome → Type 0
IsHelperOutcome f t r (Finished share) = (leader : List ℕ) × (seal.verdict_of (f t.kind) t r ≡ ok leader share)
IsHelperOutcome f t r (Failed c) = (code : ℕ) × (seal.verdict_of (f t.kind) t r ≡ bad code)

-- the Finishes of the task's jobs tell each report once, and by its verdict
pub record AreOutcomes (f : Kind → Functions) (t : PlainTask) (l : List Record) : Type 0 where
  pub once : (j : JobNo) (outs : List (Tagged Outcome)) → Mem (Finish j outs) l → Distinct (ids_of outs)
  pub verdicts : (j : JobNo) (xs : List (Tagged Step)) (outs : List (Tagged Outcome)) (o : Tagged Outcome) (r : Report) →
      Mem (Continue t.name j xs) l → Mem (Finish j outs) l → Mem o outs → Mem (Accept r) l → r.name ≡ t.name → r.id ≡ o.id → IsOutcome f t r o.body

-- the outcomes of a job
pub record Block : Type 0 where
  pub job : JobNo
  pub outs : List (Tagged Outcome)

-- the outcomes of a Commit as a list of at most one, where the Start is under the name
abbrev pub block_named : List ℕ → Option (List ℕ × List (Tagged Half)) → JobNo × List (Tagged Outcome) → List Block
block_named n None p = []
block_named n (Some s) p = if bytes_eq s.0 n then record { job = p.0; outs = p.1 } ∷ [] else []

-- the same, where the Start is looked up before the Commit
abbrev pub block_of : List ℕ → List Record → Option (JobNo × List (Tagged Outcome)) → List Block
block_of n old None = []
block_of n old (Some p) = block_named n (first (start_if p.0) old) p

-- the Commits whose Starts are under the name
abbrev pub commits_of : List ℕ → List Record → List Block
commits_of n [] = []
commits_of n (x ∷ old) = block_of n old (commit_of x) ++ commits_of n old

-- A helper's lane's blocks, against its leader's lane: each job once, with the identifiers of its Continue, by the verdicts; and
-- each accepted report of the task is in one.
pub record AreCommits (f : Kind → Functions) (t : PlainTask) (l : List Record) (bs : List Block) : Type 0 where
  pub once : Distinct (map (λ b. b.job) bs)
  pub continued : (b : Block) → Mem b bs → (xs : List (Tagged Step)) × Mem (Continue t.name b.job xs) l × (ids_of xs ≡ ids_of b.outs)
  pub ids_once : (b : Block) → Mem b bs → Distinct (ids_of b.outs)
  pub verdicts : (b : Block) (o : Tagged Outcome) (r : Report) → Mem b bs → Mem o b.outs → Mem (Accept r) l → r.name ≡ t.name → r.id ≡ o.id → IsHelperOutcome f t r o.body
  pub all : (r : Report) → Mem (Accept r) l → r.name ≡ t.name → (b : Block) × Mem b bs × Mem r.id (ids_of b.outs)

-- ---- numbers of accepted reports

-- of this task and in the bucket that starts there
abbrev pub in_bucket : PlainTask → ℕ → Report → Bool
in_bucket t s r = bytes_eq r.name t.name && nat_eq (batch_start r.time t.precision) s

-- the reports of the bucket whose verdict is ok
abbrev pub finished_in : (Kind → Functions) → PlainTask → ℕ → List Report → List Report
finished_in f t s reports = filter (λ r. in_bucket t s r && is_some (seal.content_numbers_of (f t.kind) t r)) reports

-- those whose verdict is failed
abbrev pub failed_in : (Kind → Functions) → PlainTask → ℕ → List Report → List Report
failed_in f t s reports = filter (λ r. in_bucket t s r && is_none (seal.content_numbers_of (f t.kind) t r)) reports

-- the out shares of a verdict; none where it is failed
abbrev pub pair_in : Verdict → Pair
pair_in (ok leader helper) = record { leader = leader; helper = helper }
pair_in (bad code) = record { leader = []; helper = [] }

-- the out shares of a report
abbrev pub pair_of : (Kind → Functions) → PlainTask → Report → Pair
pair_of f t r = pair_in (seal.verdict_of (f t.kind) t r)

-- what both lanes of one number told of a bucket
pub record LaneNumbers : Type 0 where
  pub count : ℕ
  pub rejected : ℕ
  pub leader : List ℕ
  pub helper : List ℕ

-- they are the numbers of these accepted reports, by their verdicts
pub record AreNumbers (f : Kind → Functions) (t : PlainTask) (s : ℕ) (accepted : List Report) (n : LaneNumbers) : Type 0 where
  pub count : n.count ≡ length (finished_in f t s accepted)
  pub rejected : n.rejected ≡ length (failed_in f t s accepted)
  pub leader : n.leader ≡ total (f t.kind).space (map (λ r. (pair_of f t r).leader) (finished_in f t s accepted))
  pub helper : n.helper ≡ total (f t.kind).space (map (λ r. (pair_of f t r).helper) (finished_in f t s accepted))

-- of a leader's list and a helper's
abbrev pub lane_numbers : (Kind → Functions) → PlainTask → ℕ → List Record → List Record → LaneNumbers
lane_numbers f t s l h = record {
  count = length (finished_ids (leader_told t.precision t.name s l));
  rejected = length (failed_ids (leader_told t.precision t.name s l));
  leader = total (f t.kind).space (shares (leader_told t.precision t.name s l));
  helper = total (f t.kind).space (shares (helper_told t.precision t.name s h));
}

-- both closed the bucket with the same count, rejected and checksum
pub record SameNumbers (c d : Closed) : Type 0 where
  pub count : c.count ≡ d.count
  pub rejected : c.rejected ≡ d.rejected
  pub checksum : c.checksum ≡ d.checksum

-- these are the accepted reports of the list, in any order, each once
pub record AreAccepts (l : List Record) (accepted : List Report) : Type 0 where
  pub once : Distinct accepted
  pub stand : (r : Report) → Mem r accepted → Mem (Accept r) l
  pub all : (r : Report) → Mem (Accept r) l → Mem r accepted
