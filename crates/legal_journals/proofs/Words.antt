-- Lemmas: what stands beside the reports of a job, and what justifies a message.
use Rattle.std.proofs.Common.{◌≡◌, ℕ, suc, ◌≤◌, List, [], ◌∷◌, drop, map, Option, Some, None, Result, refl, sym, ap, ◌∙◌, inl, inr, arith}
use Rattle.dap_messages.specs.declared.body.Half.{Half}
use Rattle.dap_messages.specs.declared.body.Status.{Status}
use Rattle.dap_messages.specs.declared.body.Step.{Step}
use Rattle.dap_messages.specs.declared.code.Code.{Code}
use Rattle.dap_messages.specs.declared.item.Tagged.{Tagged}
use Rattle.dap_messages.specs.declared.job.JobNo.{JobNo}
use Rattle.dap_messages.specs.declared.message.Message.{Message}
use Rattle.dap_messages.specs.declared.message.Message.TheVariants.{InitReq, ContReq}
use Rattle.dap_messages.specs.declared.report.Report.{Report}
use Rattle.dap_messages.specs.Items.{ids_of}
use Rattle.dap_messages.specs.Reports.{report_ids}
use Rattle.lane_records.specs.declared.outcome.Outcome.{Outcome}
use Rattle.lane_records.specs.declared.record.Record.{Record}
use Rattle.legal_journals.specs.History.{lanes_in, count_some, opens}
use Rattle.legal_journals.specs.JobReports.{Accepted, AreTested, items_from, outs_by, steps_of, told_statuses}
use Rattle.legal_journals.specs.Sent.{LeaderJustifies}

-- ---- identifiers in their order

behind : (a b : List ℕ) (more others : List (List ℕ)) → a ∷ more ≡ b ∷ others → more ≡ others
behind a b more others e = ap (λ (l : List (List ℕ)). drop 1 l) e

never : (a : List ℕ) (more : List (List ℕ)) → a ∷ more ≡ [] → ⊥
never a more e = absurd cc

pub items-ids : (item : Report → Step → Step) (reports : List Report) (steps : List (Tagged Step)) → report_ids reports ≡ ids_of steps
    → ids_of (items_from item reports steps) ≡ report_ids reports
items-ids item [] steps e = refl
items-ids item (r ∷ rs) [] e = absurd (never r.id (report_ids rs) e)
items-ids item (r ∷ rs) (x ∷ steps) e = ap (λ (l : List (List ℕ)). r.id ∷ l) (items-ids item rs steps (behind r.id x.id (report_ids rs) (ids_of steps) e))

pub outs-ids : (share : Report → Step → List ℕ) (reports : List Report) (items : List (Tagged Step)) (statuses : List (Tagged Status)) → report_ids reports ≡ ids_of items
    → report_ids reports ≡ ids_of statuses → ids_of (outs_by share reports items statuses) ≡ report_ids reports
outs-ids share [] items statuses e f = refl
outs-ids share (r ∷ rs) [] statuses e f = absurd (never r.id (report_ids rs) e)
outs-ids share (r ∷ rs) (x ∷ items) [] e f = absurd (never r.id (report_ids rs) f)
outs-ids share (r ∷ rs) (x ∷ items) (s ∷ statuses) e f =
    ap (λ (l : List (List ℕ)). r.id ∷ l)
    (outs-ids share rs items statuses (behind r.id x.id (report_ids rs) (ids_of items) e) (behind r.id s.id (report_ids rs) (ids_of statuses) f))

pub steps-ids : (step : Tagged Half → Step) (hs : List (Tagged Half)) → ids_of (steps_of step hs) ≡ ids_of hs
steps-ids step [] = refl
steps-ids step (h ∷ hs) = ap (λ (l : List (List ℕ)). h.id ∷ l) (steps-ids step hs)

pub statuses-ids : (outs : List (Tagged Outcome)) → ids_of (told_statuses outs) ≡ ids_of outs
statuses-ids [] = refl
statuses-ids (o ∷ outs) = ap (λ (l : List (List ℕ)). o.id ∷ l) (statuses-ids outs)

pub tested-ids : (outcome : Tagged Half → Step → Result (List ℕ) Code) (precision : ℕ) (n : List ℕ) (hs : List (Tagged Half)) (items : List (Tagged Step)) (old : List Record)
    (outs : List (Tagged Outcome)) → AreTested outcome precision n hs items old outs → ids_of outs ≡ ids_of hs
tested-ids outcome precision n [] [] old [] k = refl
tested-ids outcome precision n (h ∷ hs) (x ∷ items) old (o ∷ outs) k =
    ap (λ (id : List ℕ). id ∷ ids_of outs) k.0 ∙ ap (λ (l : List (List ℕ)). h.id ∷ l) (tested-ids outcome precision n hs items old outs k.2)
tested-ids outcome precision n [] [] old (o ∷ outs) k = absurd k
tested-ids outcome precision n [] (x ∷ items) old outs k = absurd k
tested-ids outcome precision n (h ∷ hs) [] old outs k = absurd k
tested-ids outcome precision n (h ∷ hs) (x ∷ items) old [] k = absurd k

-- ---- with one record more

count-more : {A : Type 0} (o : Option A) (n : ℕ) → n ≤ count_some o n
count-more None n = omega arith
count-more (Some x) n = omega arith

accepted-more : (n : List ℕ) (reports : List Report) (x : Record) (old : List Record) → Accepted n reports old → Accepted n reports (x ∷ old)
accepted-more n [] x old k = tt
accepted-more n (r ∷ rs) x old k = ((inr k.0.0, k.0.1), accepted-more n rs x old k.1)

pub justified-more : (x : Record) (old : List Record) (m : Message) → LeaderJustifies old m → LeaderJustifies (x ∷ old) m
justified-more x old (InitReq j n hs) (first, opened, rest) =
    let grows : opens old ≤ opens (x ∷ old) = count-more (lanes_in x) (opens old) in
    let within : j.incarnation ≤ opens (x ∷ old) = omega arith in
    (first, within, (rest.0, accepted-more n rest.0 x old rest.1, rest.2))
justified-more x old (ContReq j xs) (n, there) = (n, inr there)
justified-more x old _ k = absurd k
