-- Which record may follow which in the journal of a lane. Lists of records have the newest first.
use Rattle.std.specs.Prelude.{◌≡◌, ℕ, ◌<◌, List}
use Rattle.dap_messages.specs.declared.job.JobNo.{JobNo}
use Rattle.dap_messages.specs.declared.body.Half.{Half}
use Rattle.dap_messages.specs.declared.body.Step.{Step}
use Rattle.dap_messages.specs.declared.item.Tagged.{Tagged}
use Rattle.dap_messages.specs.declared.report.Report.{Report}
use Rattle.dap_messages.specs.Items.{ids_of}
use Rattle.lane_records.specs.declared.outcome.Outcome.{Outcome}
use Rattle.lane_records.specs.declared.outcome.Outcome.TheVariants.{Finished}
use Rattle.lane_records.specs.declared.closed.Closed.{Closed}
use Rattle.lane_records.specs.declared.record.Record.{Record}
use Rattle.lane_records.specs.declared.record.Record.TheVariants.{LeaderOpen, Accept, Continue, Finish, LeaderClose, HelperOpen, Start, Commit, HelperClose}
use Rattle.legal_journals.specs.History.{Mem, opens, MayOpen, IsOfLane}

-- ---- leader lanes

-- the report of this name and identifier was accepted
abbrev pub WasAccepted : List ℕ → List ℕ → List Record → Type 0
WasAccepted n id old = (r : Report) × Mem (Accept r) old × (r.name ≡ n) × (r.id ≡ id)

-- the report of this name and identifier was taken into a job
abbrev pub WasContinued : List ℕ → List ℕ → List Record → Type 0
WasContinued n id old = (j : JobNo) × (xs : List (Tagged Step)) × Mem (Continue n j xs) old × Mem id (ids_of xs)

-- the job has its Continue
abbrev pub IsContinued : JobNo → List Record → Type 0
IsContinued j old = (n : List ℕ) × (xs : List (Tagged Step)) × Mem (Continue n j xs) old

-- the job has its Continue, with these identifiers in order
abbrev pub IsContinuedWith : JobNo → List (List ℕ) → List Record → Type 0
IsContinuedWith j ids old = (n : List ℕ) × (xs : List (Tagged Step)) × Mem (Continue n j xs) old × (ids_of xs ≡ ids)

-- the job has its Finish
abbrev pub IsFinished : JobNo → List Record → Type 0
IsFinished j old = (outs : List (Tagged Outcome)) × Mem (Finish j outs) old

-- the leader's lane closed the batch of this name and start
abbrev pub IsLeaderClosed : List ℕ → ℕ → List Record → Type 0
IsLeaderClosed n s old = (c : Closed) × Mem (LeaderClose n s c) old

-- the record may follow these in the journal of the leader's lane of this number
abbrev pub LeaderLaneMay : ℕ → Record → List Record → Type 0
LeaderLaneMay lane (LeaderOpen f lanes own) old = MayOpen f lanes old × (own ≡ lane) × (lane < lanes)
LeaderLaneMay lane (Accept r) old = IsOfLane lane r.id old × ¬ (WasAccepted r.name r.id old)
LeaderLaneMay lane (Continue n j xs) old =
    (j.lane ≡ lane) × (j.incarnation ≡ opens old) × ¬ (IsContinued j old)
    × ((id : List ℕ) → Mem id (ids_of xs) → WasAccepted n id old × ¬ (WasContinued n id old))
LeaderLaneMay lane (Finish j outs) old = IsContinuedWith j (ids_of outs) old × ¬ (IsFinished j old)
LeaderLaneMay lane (LeaderClose n s c) old = ¬ (IsLeaderClosed n s old)
LeaderLaneMay lane _ old = ⊥

-- ---- helper lanes

-- the job has its Start
abbrev pub IsStarted : JobNo → List Record → Type 0
IsStarted j old = (n : List ℕ) × (hs : List (Tagged Half)) × Mem (Start j n hs) old

-- the job has its Commit
abbrev pub IsCommitted : JobNo → List Record → Type 0
IsCommitted j old = (outs : List (Tagged Outcome)) × Mem (Commit j outs) old

-- an outcome says that the report of this identifier was finished
abbrev pub Finishes : List ℕ → List (Tagged Outcome) → Type 0
Finishes id outs = (out : List ℕ) × Mem (record { id = id; body = Finished out }) outs

-- the report of this name and identifier was finished
abbrev pub WasFinished : List ℕ → List ℕ → List Record → Type 0
WasFinished n id old =
    (j : JobNo) × (hs : List (Tagged Half)) × (outs : List (Tagged Outcome))
    × Mem (Start j n hs) old × Mem (Commit j outs) old × Finishes id outs

-- the job has its Start, with the identifiers of these outcomes in order, and no report of its name is finished twice
abbrev pub IsStartedFor : JobNo → List (Tagged Outcome) → List Record → Type 0
IsStartedFor j outs old =
    (n : List ℕ) × (hs : List (Tagged Half)) × Mem (Start j n hs) old × (ids_of hs ≡ ids_of outs)
    × ((id : List ℕ) → Finishes id outs → ¬ (WasFinished n id old))

-- the helper's lane closed the batch of this name and start
abbrev pub IsHelperClosed : List ℕ → ℕ → List Record → Type 0
IsHelperClosed n s old = (c : Closed) × Mem (HelperClose n s c) old

-- the record may follow these in the journal of the helper's lane of this number
abbrev pub HelperLaneMay : ℕ → Record → List Record → Type 0
HelperLaneMay lane (HelperOpen f lanes own) old = MayOpen f lanes old × (own ≡ lane) × (lane < lanes)
HelperLaneMay lane (Start j n hs) old =
    (j.lane ≡ lane) × ((id : List ℕ) → Mem id (ids_of hs) → IsOfLane lane id old) × ¬ (IsStarted j old)
HelperLaneMay lane (Commit j outs) old = IsStartedFor j outs old × ¬ (IsCommitted j old)
HelperLaneMay lane (HelperClose n s c) old = ¬ (IsHelperClosed n s old)
HelperLaneMay lane _ old = ⊥
