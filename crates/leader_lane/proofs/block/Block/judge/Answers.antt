use Rattle.std.proofs.Common.{List, sym, ap, subst, ◌∙◌}
use Rattle.lane_records.specs.declared.record.Record.{Record}
use Rattle.legal_journals.proofs.Results.{told_err, map_ok}
use Rattle.leader_lane.specs.Catalog.{Lists}
use Rattle.leader_lane.specs.Judge.{Env}
use Rattle.leader_lane.proofs.ReadyLaws.{none_is, spelled_some, on_ok_then, on_err_then, ready_form_as, ready_judged_as, allowed_in}
use Rattle.leader_lane.proofs.block.Block.judge.Goals as goal

pub returns-in_default-clause-ready : goal.returns-in_default-clause-ready
returns-in_default-clause-ready g c us k =
    let env : Env = record { tasks = c.args.tasks.now; place = c.args.place } in
    ready_form_as env c.args.records.now c.args.self.now.records.items c.args.self.now.answers.items c.push.new.self.items us c.args.u.now c.requires.place
    (sym c.in_ok-r.ensures.found ∙ none_is c.in_ok-r.field-0 c.in_default.not-Some) c.in_ok-push.ensures.items k

pub judge_report-judged-requires-clause-lists : goal.judge_report-judged-requires-clause-lists
judge_report-judged-requires-clause-lists g c = subst (λ (l : List Record). Lists c.args.catalog.now c.args.records.now l) (sym c.deref.ensures.value) c.requires.lists

pub judge_report-judged-requires-clause-records : goal.judge_report-judged-requires-clause-records
judge_report-judged-requires-clause-records g c =
    let env : Env = record { tasks = c.args.tasks.now; place = c.args.place } in
    allowed_in env c.args.records.now c.args.self.now.records.items c.deref.result.now c.deref.ensures.value c.requires.sound

pub judge_report-judged-requires-clause-allowed : goal.judge_report-judged-requires-clause-allowed
judge_report-judged-requires-clause-allowed g c = (spelled_some c.args.u.now c.in_ok-r.field-0 c.in-Some.r c.in-Some.is c.in_ok-r.ensures.spelled).0

pub judge_report-judged-requires-clause-bytes : goal.judge_report-judged-requires-clause-bytes
judge_report-judged-requires-clause-bytes g c = (spelled_some c.args.u.now c.in_ok-r.field-0 c.in-Some.r c.in-Some.is c.in_ok-r.ensures.spelled).1

pub returns-in_err-r-clause-err : goal.returns-in_err-r-clause-err
returns-in_err-r-clause-err g c = told_err c.from_residual.result (c.args.self.now.records.items, c.requires.lists)

pub returns-in_err-push-clause-err : goal.returns-in_err-push-clause-err
returns-in_err-push-clause-err g c = told_err c.from_residual-in_err-push.result (c.args.self.now.records.items, c.requires.lists)

pub returns-in_err-push-2-clause-err : goal.returns-in_err-push-2-clause-err
returns-in_err-push-2-clause-err g c = told_err c.from_residual-in_err-push-2.result (c.args.self.now.records.items, c.requires.lists)

pub returns-clause-ready : goal.returns-clause-ready
returns-clause-ready g c =
    let env : Env = record { tasks = c.args.tasks.now; place = c.args.place } in
    let s = spelled_some c.args.u.now c.in_ok-r.field-0 c.in-Some.r c.in-Some.is c.in_ok-r.ensures.spelled in
    on_ok_then c.add.result (λ z us k.
    ready_judged_as env c.args.records.now c.args.self.now.records.items c.deref.result.now c.add.new.self.records.items c.args.self.now.answers.items c.add.new.self.answers.items us c.args.u.now c.in-Some.r c.judge_report-judged.result c.cause_of.result
    c.requires.place c.requires.opened c.deref.ensures.value (sym c.in_ok-r.ensures.found ∙ c.in-Some.is) s.0 (c.forms_are_bounded.ensures.reports c.in-Some.r s.0)
    c.judge_report-judged.ensures c.cause_of.ensures (ap (λ v. v.items) c.add.ensures.answers ∙ c.in_ok-push-2.ensures.items) z k) c.add.ensures.records

pub returns-clause-lists : goal.returns-clause-lists
returns-clause-lists g c = map_ok c.add.result c.add.ensures.lists (λ f. f c.args.records.now c.requires.lists)

pub returns-clause-err : goal.returns-clause-err
returns-clause-err g c = on_err_then c.add.result (λ f. f c.args.records.now c.requires.lists) c.add.ensures.err
