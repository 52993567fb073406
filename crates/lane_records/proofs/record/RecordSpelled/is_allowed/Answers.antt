use Rattle.std.proofs.Common.{sym, ap, ◌∙◌, inl, inr}
use Rattle.lane_records.specs.declared.record.Record.{Record}
use Rattle.lane_records.specs.Records.{record_}
use Rattle.lane_records.specs.RecordLaws.{leader_task_allowed, helper_task_allowed}
use Rattle.lane_records.proofs.record.RecordSpelled.is_allowed.Goals as goal

pub returns-in-LeaderTask : goal.returns-in-LeaderTask
returns-in-LeaderTask c =
    let t = c.in-LeaderTask.task in
    elim c.in-LeaderTask.is [
      | inl e ↦ c.is_allowed-in-LeaderTask.ensures ∙ sym (leader_task_allowed t) ∙ sym (ap (λ (x : Record). record_.allowed x) e)
      | inr e ↦ c.is_allowed-in-LeaderTask.ensures ∙ sym (helper_task_allowed t) ∙ sym (ap (λ (x : Record). record_.allowed x) e)
    ]
