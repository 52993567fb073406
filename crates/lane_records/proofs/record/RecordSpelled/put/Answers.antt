use Rattle.std.proofs.Common.{◌≡◌, ◌++◌, true, OnOk, List, ℕ, sym, subst, ◌∙◌}
use Rattle.dap_messages.specs.Laws.{and_parts}
use Rattle.dap_messages.specs.Grammar.{◌⊗◌, name}
use Rattle.dap_messages.specs.Shares.{span_as, extent_of, share_req, share_resp}
use Rattle.lane_records.specs.declared.record.Record.{Record}
use Rattle.lane_records.specs.Batch.{answered}
use Rattle.lane_records.specs.Records.{record_}
use Rattle.lane_records.specs.RecordLaws.{leader_task_allowed, leader_task_spelled, helper_task_allowed, helper_task_spelled, leader_answer_allowed}
use Rattle.lane_records.proofs.record.RecordSpelled.put.Goals as goal

pub put_task-requires : goal.put_task-requires
put_task-requires c = sym (leader_task_allowed c.in-LeaderTask.task) ∙ subst (λ (x : Record). record_.allowed x ≡ true) c.in-LeaderTask.is c.requires

pub put_task-requires-in-HelperTask : goal.put_task-requires-in-HelperTask
put_task-requires-in-HelperTask c = sym (helper_task_allowed c.in-HelperTask.task) ∙ subst (λ (x : Record). record_.allowed x ≡ true) c.in-HelperTask.is c.requires

pub put_answer-requires : goal.put_answer-requires
put_answer-requires c =
    let s = c.in-LeaderAnswer.span in
    let a = c.in-LeaderAnswer.answered in
    let fields = sym (leader_answer_allowed c.in-LeaderAnswer.name s a) ∙ subst (λ (x : Record). record_.allowed x ≡ true) c.in-LeaderAnswer.is c.requires in
    let behind = (and_parts (name.allowed c.in-LeaderAnswer.name) ((span_as (extent_of s) ⊗ answered).allowed (s, a)) fields).1 in
    (and_parts ((span_as (extent_of s)).allowed s) (answered.allowed a) behind).1

pub put-requires-in-HelperAnswer-2 : goal.put-requires-in-HelperAnswer-2
put-requires-in-HelperAnswer-2 c =
    (and_parts (share_req.allowed c.in-HelperAnswer.request) (share_resp.allowed c.in-HelperAnswer.response) (subst (λ (x : Record). record_.allowed x ≡ true) c.in-HelperAnswer.is c.requires)).1

pub returns-in-Finish : goal.returns-in-Finish
returns-in-Finish c =
    subst (λ (x : Record). OnOk c.put_outcomes.result (c.put_outcomes.new.out.items ≡ c.args.out.now.items ++ record_.spell x)) (sym c.in-Finish.is) c.put_outcomes.ensures

pub returns-in-Start : goal.returns-in-Start
returns-in-Start c =
    subst (λ (x : Record). OnOk c.put_start.result (c.put_start.new.out.items ≡ c.args.out.now.items ++ record_.spell x)) (sym c.in-Start.is) c.put_start.ensures

pub returns-in-Commit : goal.returns-in-Commit
returns-in-Commit c =
    subst (λ (x : Record). OnOk c.put_outcomes-in-Commit.result (c.put_outcomes-in-Commit.new.out.items ≡ c.args.out.now.items ++ record_.spell x)) (sym c.in-Commit.is) c.put_outcomes-in-Commit.ensures

pub returns-in-LeaderTask : goal.returns-in-LeaderTask
returns-in-LeaderTask c =
    subst (λ (x : Record). OnOk c.put_task.result (c.put_task.new.out.items ≡ c.args.out.now.items ++ record_.spell x)) (sym c.in-LeaderTask.is)
    (subst (λ (text : List ℕ). OnOk c.put_task.result (c.put_task.new.out.items ≡ c.args.out.now.items ++ text)) (sym (leader_task_spelled c.in-LeaderTask.task)) c.put_task.ensures)

pub returns-in-HelperTask : goal.returns-in-HelperTask
returns-in-HelperTask c =
    subst (λ (x : Record). OnOk c.put_task-in-HelperTask.result (c.put_task-in-HelperTask.new.out.items ≡ c.args.out.now.items ++ record_.spell x)) (sym c.in-HelperTask.is)
    (subst (λ (text : List ℕ). OnOk c.put_task-in-HelperTask.result (c.put_task-in-HelperTask.new.out.items ≡ c.args.out.now.items ++ text)) (sym (helper_task_spelled c.in-HelperTask.task)) c.put_task-in-HelperTask.ensures)
