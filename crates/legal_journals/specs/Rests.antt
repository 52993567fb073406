-- On which messages and earlier records a lane's record rests. `heard` says which messages were handed on; what is said of one report comes in as functions of its task. Lists of records have the newest first.
use Rattle.std.specs.Prelude.{◌≡◌, ℕ, List, [], ◌∷◌, ◌++◌, Option, Some, Result}
use Rattle.dap_messages.specs.declared.body.Half.{Half}
use Rattle.dap_messages.specs.declared.body.Status.{Status}
use Rattle.dap_messages.specs.declared.body.Step.{Step}
use Rattle.dap_messages.specs.declared.code.Code.{Code}
use Rattle.dap_messages.specs.declared.item.Tagged.{Tagged}
use Rattle.dap_messages.specs.declared.job.JobNo.{JobNo}
use Rattle.dap_messages.specs.declared.message.Message.{Message}
use Rattle.dap_messages.specs.declared.message.Message.TheVariants.{InitReq, InitResp, ContReq, ContResp}
use Rattle.dap_messages.specs.declared.report.Report.{Report}
use Rattle.dap_messages.specs.Items.{ids_of}
use Rattle.dap_messages.specs.Reports.{report_ids}
use Rattle.lane_records.specs.declared.outcome.Outcome.{Outcome}
use Rattle.lane_records.specs.declared.record.Record.{Record}
use Rattle.lane_records.specs.declared.record.Record.TheVariants.{Continue, Finish, Start, Commit}
use Rattle.legal_journals.specs.History.{Mem}
use Rattle.legal_journals.specs.JobReports.{Accepted, items_from, outs_by, AreTested}

-- ---- the leader

-- a Continue: on the helper's steps, for reports that were accepted before
abbrev pub ContinueRests : {T : Type 0} → (T → Report → Step → Step) → (List ℕ → Option T) → (Message → Type 0) → List ℕ → JobNo → List (Tagged Step) → List Record → Type 0
ContinueRests {T} item task heard n j xs old =
    (t : T) × (task n ≡ Some t) × ((rs : List Report) × (steps : List (Tagged Step)) × Accepted n rs old × (report_ids rs ≡ ids_of xs)
    × heard (InitResp j steps) × (xs ≡ items_from (item t) rs steps))

-- a Finish: on the helper's statuses, and its Continue before
abbrev pub FinishRests : {T : Type 0} → (T → Report → Step → List ℕ) → (List ℕ → Option T) → (Message → Type 0) → JobNo → List (Tagged Outcome) → List Record → Type 0
FinishRests {T} share task heard j outs old =
    (n : List ℕ) × (t : T) × (task n ≡ Some t) × ((rs : List Report) × (xs : List (Tagged Step)) × (sts : List (Tagged Status))
    × Accepted n rs old × Mem (Continue n j xs) old × (report_ids rs ≡ ids_of xs)
    × heard (ContResp j sts) × (outs ≡ outs_by (share t) rs xs sts))

-- ---- the helper

-- a Start: on its request
abbrev pub StartRests : {T : Type 0} → (List ℕ → Option T) → (Message → Type 0) → JobNo → List ℕ → List (Tagged Half) → Type 0
StartRests {T} task heard j n hs = ((t : T) × (task n ≡ Some t)) × heard (InitReq j n hs)

-- a Commit: on the request of its items, and its Start before
abbrev pub CommitRests : {T : Type 0} → (T → List ℕ → Tagged Half → Step → Result (List ℕ) Code) → (T → ℕ) → (List ℕ → Option T) → (Message → Type 0)
    → JobNo → List (Tagged Outcome) → List Record → Type 0
CommitRests {T} outcome precision task heard j outs old =
    (n : List ℕ) × (t : T) × (task n ≡ Some t) × ((hs : List (Tagged Half)) × (xs : List (Tagged Step))
    × Mem (Start j n hs) old × heard (ContReq j xs) × (ids_of hs ≡ ids_of xs) × AreTested (outcome t n) (precision t) n hs xs old outs)
