-- What justifies a message that a lane sent. What is said of one report comes in as a function of its task. Lists of records have the newest first.
use Rattle.std.specs.Prelude.{◌≡◌, ℕ, ◌≤◌, List, Option, Some}
use Rattle.dap_messages.specs.declared.body.Half.{Half}
use Rattle.dap_messages.specs.declared.body.Step.{Step}
use Rattle.dap_messages.specs.declared.item.Tagged.{Tagged}
use Rattle.dap_messages.specs.declared.job.JobNo.{JobNo}
use Rattle.dap_messages.specs.declared.message.Message.{Message}
use Rattle.dap_messages.specs.declared.message.Message.TheVariants.{InitReq, InitResp, ContReq, ContResp}
use Rattle.dap_messages.specs.declared.report.Report.{Report}
use Rattle.dap_messages.specs.Items.{ids_of}
use Rattle.dap_messages.specs.Reports.{halves}
use Rattle.lane_records.specs.declared.outcome.Outcome.{Outcome}
use Rattle.lane_records.specs.declared.record.Record.{Record}
use Rattle.lane_records.specs.declared.record.Record.TheVariants.{Continue, Start, Commit}
use Rattle.legal_journals.specs.History.{Mem, opens}
use Rattle.legal_journals.specs.JobReports.{Accepted, steps_of, told_statuses}

-- a leader's: an InitReq offers accepted reports, in a job of an incarnation that was opened; a ContReq is in a Continue
abbrev pub LeaderJustifies : List Record → Message → Type 0
LeaderJustifies l (InitReq j n hs) = (1 ≤ j.incarnation) × (j.incarnation ≤ opens l) × ((rs : List Report) × Accepted n rs l × (hs ≡ halves rs))
LeaderJustifies l (ContReq j xs) = (n : List ℕ) × Mem (Continue n j xs) l
LeaderJustifies l _ = ⊥

-- a helper's: an InitResp tells the first steps of a Start; a ContResp tells the outcomes of a Commit
abbrev pub HelperJustifies : {T : Type 0} → (T → List ℕ → Tagged Half → Step) → (List ℕ → Option T) → List Record → Message → Type 0
HelperJustifies {T} step task l (InitResp j steps) =
    (n : List ℕ) × (t : T) × (task n ≡ Some t) × ((hs : List (Tagged Half)) × Mem (Start j n hs) l × (steps ≡ steps_of (step t n) hs))
HelperJustifies step task l (ContResp j sts) = (outs : List (Tagged Outcome)) × Mem (Commit j outs) l × (sts ≡ told_statuses outs)
HelperJustifies step task l _ = ⊥

-- an InitReq whose job has a Continue is of that Continue's name and reports
abbrev pub IsOfItsContinue : List Record → Message → Type 0
IsOfItsContinue l (InitReq j n hs) = (m : List ℕ) → (xs : List (Tagged Step)) → Mem (Continue m j xs) l → (n ≡ m) × (ids_of hs ≡ ids_of xs)
IsOfItsContinue l _ = Unit {0}

-- two InitReqs of one job are one
abbrev pub IsOneInit : JobNo → List ℕ → List (Tagged Half) → Message → Type 0
IsOneInit j n hs (InitReq k m gs) = j ≡ k → (n ≡ m) × (hs ≡ gs)
IsOneInit j n hs _ = Unit {0}

-- each InitReq of a list is one with any other of its job
abbrev pub HaveOneInit : List Message → Type 0
HaveOneInit sent = (j : JobNo) → (n : List ℕ) → (hs : List (Tagged Half)) → Mem (InitReq j n hs) sent → (m : Message) → Mem m sent → IsOneInit j n hs m
