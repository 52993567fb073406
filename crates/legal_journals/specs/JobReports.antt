-- The reports of a job: what stands beside each in a record or message. What is said of one report comes in as a function. Lists of records have the newest first.
use Rattle.std.specs.Prelude.{◌≡◌, ℕ, ◌⊎◌, List, [], ◌∷◌, map, Result, Ok, Err}
use Rattle.dap_batch.specs.Group.{batch_start}
use Rattle.dap_messages.specs.declared.body.Half.{Half}
use Rattle.dap_messages.specs.declared.body.Status.{Status}
use Rattle.dap_messages.specs.declared.body.Status.TheVariants as status
use Rattle.dap_messages.specs.declared.body.Step.{Step}
use Rattle.dap_messages.specs.declared.code.Code.{Code}
use Rattle.dap_messages.specs.declared.code.Code.TheVariants.{BatchCollected, ReportReplayed}
use Rattle.dap_messages.specs.declared.item.Tagged.{Tagged}
use Rattle.dap_messages.specs.declared.report.Report.{Report}
use Rattle.lane_records.specs.declared.outcome.Outcome.{Outcome}
use Rattle.lane_records.specs.declared.outcome.Outcome.TheVariants.{Finished, Failed}
use Rattle.lane_records.specs.declared.record.Record.{Record}
use Rattle.lane_records.specs.declared.record.Record.TheVariants.{Accept}
use Rattle.legal_journals.specs.History.{Mem}
use Rattle.legal_journals.specs.LegalLanes.{WasFinished, IsHelperClosed}

-- ---- accepted reports

-- an item for each report, in their order
abbrev pub each_of : {B : Type 0} → (Report → B) → List Report → List (Tagged B)
each_of f reports = map (λ r. record { id = r.id; body = f r }) reports

-- the report was accepted under the name
abbrev pub Has : List ℕ → Report → List Record → Type 0
Has n r l = Mem (Accept r) l × (r.name ≡ n)

-- so was each of these
abbrev pub Accepted : List ℕ → List Report → List Record → Type 0
Accepted n [] l = Unit {0}
Accepted n (r ∷ rs) l = Has n r l × Accepted n rs l

-- ---- outcomes as they are told to the other node

-- that the report was finished, or the code with which it failed
abbrev pub status_of : Outcome → Status
status_of (Finished share) = status.Finished
status_of (Failed c) = status.Failed c

-- the same of each, in their order
abbrev pub told_statuses : List (Tagged Outcome) → List (Tagged Status)
told_statuses outs = map (λ o. record { id = o.id; body = status_of o.body }) outs

-- ---- the leader's part of a job

-- the items for a helper's steps, by the leader's item for a report and its step
abbrev pub items_from : (Report → Step → Step) → List Report → List (Tagged Step) → List (Tagged Step)
items_from item [] steps = []
items_from item (r ∷ rs) [] = []
items_from item (r ∷ rs) (x ∷ steps) = record { id = r.id; body = item r x.body } ∷ items_from item rs steps

-- the leader's outcome of its item and the helper's status, by its share of the item
abbrev pub told_by : (Report → Step → List ℕ) → Report → Step → Status → Outcome
told_by share r item status.Finished = Finished (share r item)
told_by share r item (status.Failed c) = Failed c

-- the outcomes of a job, by its items and the helper's statuses
abbrev pub outs_by : (Report → Step → List ℕ) → List Report → List (Tagged Step) → List (Tagged Status) → List (Tagged Outcome)
outs_by share [] items sts = []
outs_by share (r ∷ rs) [] sts = []
outs_by share (r ∷ rs) (x ∷ items) [] = []
outs_by share (r ∷ rs) (x ∷ items) (s ∷ sts) = record { id = r.id; body = told_by share r x.body s.body } ∷ outs_by share rs items sts

-- ---- the helper's part

-- its first steps, by the step of a half
abbrev pub steps_of : (Tagged Half → Step) → List (Tagged Half) → List (Tagged Step)
steps_of step hs = map (λ h. record { id = h.id; body = step h }) hs

-- What its outcome is after its tests: a report that it would finish fails where the bucket of this start is closed, or the report was finished before.
abbrev pub IsTested : List ℕ → ℕ → List ℕ → Result (List ℕ) Code → List Record → Outcome → Type 0
IsTested n s id (Err c) old o = o ≡ Failed c
IsTested n s id (Ok out) old o =
    (IsHelperClosed n s old × (o ≡ Failed BatchCollected)) ⊎ ((WasFinished n id old × (o ≡ Failed ReportReplayed)) ⊎ (o ≡ Finished out))

-- its outcomes of a request's items, for the halves of the job's Start, by what a half and an item come to
abbrev pub AreTested : (Tagged Half → Step → Result (List ℕ) Code) → ℕ → List ℕ → List (Tagged Half) → List (Tagged Step) → List Record → List (Tagged Outcome) → Type 0
AreTested outcome precision n [] [] old [] = Unit {0}
AreTested outcome precision n (h ∷ hs) (x ∷ items) old (o ∷ outs) =
    (o.id ≡ h.id) × IsTested n (batch_start h.body.time precision) h.id (outcome h x.body) old o.body × AreTested outcome precision n hs items old outs
AreTested outcome precision n [] [] old (o ∷ outs) = ⊥
AreTested outcome precision n [] (x ∷ items) old outs = ⊥
AreTested outcome precision n (h ∷ hs) [] old outs = ⊥
AreTested outcome precision n (h ∷ hs) (x ∷ items) old [] = ⊥
