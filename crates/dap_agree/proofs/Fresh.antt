-- Fresh journals are legal and agree; the shares of Answers are out shares.
use Rattle.std.proofs.Common.{◌≡◌, ℕ, List, Some, sym, ◌∙◌, subst, ap}
use Rattle.vdaf_api.specs.Functions.{Functions}
use Rattle.vdaf_api.specs.Promises.{FunctionLaws}
use Rattle.vdaf_api.specs.VerdictLaws.{ok-outs}
use Rattle.vdaf_api.specs.Vectors.{IsOut}
use Rattle.vdaf_api.specs.declared.kind.Kind.{Kind}
use Rattle.dap_messages.specs.declared.body.Step.{Step}
use Rattle.dap_messages.specs.declared.item.Tagged.{Tagged}
use Rattle.dap_messages.specs.declared.job.JobNo.{JobNo}
use Rattle.dap_messages.specs.declared.report.Report.{Report}
use Rattle.dap_tasks.specs.Task.{PlainTask}
use Rattle.dap_seal.specs.Reports as seal
use Rattle.lane_records.specs.declared.batch.Answered.{Answered}
use Rattle.lane_records.specs.declared.outcome.Outcome.{Outcome}
use Rattle.lane_records.specs.declared.outcome.Outcome.TheVariants.{Finished}
use Rattle.lane_records.specs.declared.record.Record.{Record}
use Rattle.lane_records.specs.declared.record.Record.TheVariants.{Accept, Continue, Finish, LeaderAnswer, HelperAnswer}
use Rattle.legal_journals.specs.History.{Mem}
use Rattle.dap_agree.specs.Fronts.{Journals, held, LeaderAnswerFits, HelperAnswerFits, AllAgree, AllLegal, fresh}
use Rattle.dap_agree.specs.Outcomes.{AreOutcomes}
use Rattle.dap_bytes.specs.declared.span.Span.{Span}
use Rattle.dap_agree.proofs.Answered.{share_is}
use Rattle.dap_agree.proofs.Stored.{the_batch}
use Rattle.dap_agree.proofs.Two.{same_task}

pub fresh_legal : (lanes : ℕ) → AllLegal (fresh lanes)
fresh_legal lanes = record {
  leaders = λ k p. tt;
  helpers = λ k p. tt;
  front = tt;
  helper_front = tt;
  opened = λ k p x n m e. elim m [ ];
}

pub fresh_agree : (f : Kind → Functions) (lanes : ℕ) → AllAgree f (fresh lanes)
fresh_agree f lanes = record { lanes = λ k p. (tt, tt); front = λ x m. elim m [ ]; helper_front = λ x m. elim m [ ] }

-- a finished out share of a Finish is an out share of its task
pub finished_outs : (f : Kind → Functions) (t : PlainTask) (l : List Record) (j : JobNo) (xs : List (Tagged Step)) (outs : List (Tagged Outcome)) (id share : List ℕ) (r : Report) →
    FunctionLaws (f t.kind) → AreOutcomes f t l → Mem (Continue t.name j xs) l → Mem (Finish j outs) l → Mem (record { id = id; body = Finished share }) outs →
    Mem (Accept r) l → r.name ≡ t.name → r.id ≡ id → IsOut (f t.kind).space share
finished_outs f t l j xs outs id share r laws are c p q a name same =
    let v = are.verdicts j xs outs (record { id = id; body = Finished share }) r c p q a name same in
    (ok-outs laws (seal.opened_report t r) share v.0 v.1).0

-- and so are both shares of an Answer
pub answer_outs : (f : Kind → Functions) (js : Journals) (n : List ℕ) (s : Span) (a : Answered) → AllAgree f js → Mem (LeaderAnswer n s a) js.front →
    (t : PlainTask) × ((held js).task n ≡ Some t) × IsOut (f t.kind).space a.leader × IsOut (f t.kind).space a.helper
answer_outs f js n s a agree p =
    let m : LeaderAnswerFits f js (the_batch n s) a = agree.front (LeaderAnswer n s a) p in
    let g = m.2.6 in
    let same : the_batch g.0.name g.0.span ≡ the_batch n s = ap (λ z. the_batch z g.0.span) g.3 ∙ ap (λ z. the_batch n z) g.4 in
    let h : HelperAnswerFits f js (the_batch n s) g.0 g.1 =
    subst (λ z. HelperAnswerFits f js z g.0 g.1) same (agree.helper_front (HelperAnswer g.0 g.1) g.2) in
    let tasks : h.0 ≡ m.0 = same_task (held js) n h.0 m.0 h.1 m.1 in
    let share : _ ≡ a.helper = share_is _ _ (sym h.3.4 ∙ g.7) in
    (m.0, m.1, m.2.5, subst (λ (z : PlainTask). IsOut (f z.kind).space a.helper) tasks (subst (λ z. IsOut (f h.0.kind).space z) share h.3.5))
