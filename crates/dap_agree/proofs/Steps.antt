-- What the lanes compute of a job from each other's messages is what the verdicts say.
use Rattle.std.proofs.Common.{◌≡◌, ℕ, List, [], ◌∷◌, Result, Ok, Err, refl, ap, sym, ◌∙◌, inl, inr, subst}
use Rattle.vdaf_api.specs.Functions.{Functions}
use Rattle.vdaf_api.specs.Verdict.{Verdict, ok, bad}
use Rattle.vdaf_api.specs.declared.kind.Kind.{Kind}
use Rattle.dap_batch.specs.Group.{batch_start}
use Rattle.dap_messages.specs.declared.body.Half.{Half}
use Rattle.dap_messages.specs.declared.code.Code.{Code}
use Rattle.dap_messages.specs.declared.item.Tagged.{Tagged}
use Rattle.dap_messages.specs.declared.report.Report.{Report}
use Rattle.dap_messages.specs.Reports.{halves}
use Rattle.dap_tasks.specs.Task.{PlainTask}
use Rattle.dap_seal.specs.Reports as seal
use Rattle.dap_seal.specs.Steps.{half_of, prep_by, item_by, share_by, outcome_by, step_told}
use Rattle.dap_seal.proofs.Turns.{comes_to_the_verdict}
use Rattle.lane_records.specs.declared.outcome.Outcome.{Outcome}
use Rattle.lane_records.specs.declared.outcome.Outcome.TheVariants.{Finished, Failed}
use Rattle.lane_records.specs.declared.record.Record.{Record}
use Rattle.legal_journals.specs.History.{Mem}
use Rattle.legal_journals.specs.JobReports.{each_of, Accepted, status_of, told_statuses, steps_of, items_from, told_by, outs_by, IsTested, AreTested}
use Rattle.legal_journals.specs.LegalLanes.{WasFinished, IsHelperClosed}
use Rattle.dap_agree.specs.Verdicts.{item_of, leader_part, helper_part, leader_outcome, helper_outcome}
use Rattle.dap_agree.proofs.Lists.{the_tagged, tagged}

-- the leader's item for the helper's first step is that of the report
item_is : (f : Kind → Functions) (t : PlainTask) (r : Report) → item_by f t r (prep_by f t r.name (half_of r)) ≡ item_of f t r
item_is f t r = (comes_to_the_verdict f t r).item

-- an out share or a code as an outcome
abbrev pub outcome_told : Result (List ℕ) Code → Outcome
outcome_told (Ok out) = Finished out
outcome_told (Err c) = Failed c

-- the helper's outcome is that of the verdict
pub outcome_is : (f : Kind → Functions) (t : PlainTask) (r : Report) → outcome_told (outcome_by f t r.name (half_of r) (item_of f t r)) ≡ helper_outcome f t r
outcome_is f t r = go (seal.verdict_of (f t.kind) t r) refl
  where
    go : (v : Verdict) → seal.verdict_of (f t.kind) t r ≡ v → outcome_told (outcome_by f t r.name (half_of r) (item_of f t r)) ≡ helper_part v
    go (ok l h) e = ap outcome_told ((comes_to_the_verdict f t r).helper l h e)
    go (bad c) e = ap outcome_told ((comes_to_the_verdict f t r).failed c e)

-- and so is the leader's
pub told_is : (f : Kind → Functions) (t : PlainTask) (r : Report) → told_by (share_by f t) r (item_of f t r) (status_of (helper_outcome f t r)) ≡ leader_outcome f t r
told_is f t r = go (seal.verdict_of (f t.kind) t r) refl
  where
    go : (v : Verdict) → seal.verdict_of (f t.kind) t r ≡ v → told_by (share_by f t) r (item_of f t r) (status_of (helper_part v)) ≡ leader_part v
    go (ok l h) e = ap Finished ((comes_to_the_verdict f t r).leader l h e)
    go (bad c) e = refl

-- ---- lists

pub items_are : (f : Kind → Functions) (t : PlainTask) (n : List ℕ) (rs : List Report) (l : List Record) → Accepted n rs l →
    items_from (item_by f t) rs (steps_of (prep_by f t n) (halves rs)) ≡ each_of (item_of f t) rs
items_are f t n [] l a = refl
items_are f t n (r ∷ rs) l a =
    ap (λ z. the_tagged r.id (item_by f t r (prep_by f t z (half_of r))) ∷ items_from (item_by f t) rs (steps_of (prep_by f t n) (halves rs))) (sym a.0.1)
    ∙ ap (λ z. the_tagged r.id z ∷ items_from (item_by f t) rs (steps_of (prep_by f t n) (halves rs))) (item_is f t r)
    ∙ ap (λ z. the_tagged r.id (item_of f t r) ∷ z) (items_are f t n rs l a.1)

pub outs_are : (f : Kind → Functions) (t : PlainTask) (rs : List Report) →
    outs_by (share_by f t) rs (each_of (item_of f t) rs) (told_statuses (each_of (helper_outcome f t) rs)) ≡ each_of (leader_outcome f t) rs
outs_are f t [] = refl
outs_are f t (r ∷ rs) =
    ap (λ z. the_tagged r.id z ∷ outs_by (share_by f t) rs (each_of (item_of f t) rs) (told_statuses (each_of (helper_outcome f t) rs))) (told_is f t r)
    ∙ ap (λ z. the_tagged r.id (leader_outcome f t r) ∷ z) (outs_are f t rs)

-- where no report was finished before or is of a closed bucket, the helper's outcomes are the verdicts
pub tested_are : (f : Kind → Functions) (t : PlainTask) (n : List ℕ) (rs : List Report) (l old : List Record) (outs : List (Tagged Outcome)) → Accepted n rs l →
    ((r : Report) → Mem r rs → ¬ (WasFinished n r.id old) × ¬ (IsHelperClosed n (batch_start r.time t.precision) old)) →
    AreTested (outcome_by f t n) t.precision n (halves rs) (each_of (item_of f t) rs) old outs → outs ≡ each_of (helper_outcome f t) rs
tested_are f t n [] l old [] acc none a = refl
tested_are f t n [] l old (o ∷ outs) acc none a = elim a [ ]
tested_are f t n (r ∷ rs) l old [] acc none a = elim a [ ]
tested_are f t n (r ∷ rs) l old (o ∷ outs) acc none a =
    let rest : outs ≡ each_of (helper_outcome f t) rs = tested_are f t n rs l old outs acc.1 (λ q p. none q (inr p)) a.2 in
    let is : outcome_told (outcome_by f t n (half_of r) (item_of f t r)) ≡ helper_outcome f t r =
    ap (λ z. outcome_told (outcome_by f t z (half_of r) (item_of f t r))) (sym acc.0.1) ∙ outcome_is f t r in
    let body : o.body ≡ helper_outcome f t r = one (outcome_by f t n (half_of r) (item_of f t r)) a.1 ∙ is in
    let top : o ≡ the_tagged r.id (helper_outcome f t r) = tagged o r.id (helper_outcome f t r) a.0 body in
    ap (λ z. z ∷ outs) top ∙ ap (λ z. the_tagged r.id (helper_outcome f t r) ∷ z) rest
  where
    one : (x : Result (List ℕ) Code) → IsTested n (batch_start r.time t.precision) r.id x old o.body → o.body ≡ outcome_told x
    one (Err c) e = e
    one (Ok out) (inl e) = absurd ((none r (inl refl)).1 e.0)
    one (Ok out) (inr (inl e)) = absurd ((none r (inl refl)).0 e.0)
    one (Ok out) (inr (inr e)) = e
