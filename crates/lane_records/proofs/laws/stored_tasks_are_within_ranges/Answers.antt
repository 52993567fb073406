use Rattle.lane_records.proofs.Ranges.{task_numbers, task_expiry}
use Rattle.lane_records.proofs.laws.stored_tasks_are_within_ranges.Goals as goal

pub returns-clause-numbers : goal.returns-clause-numbers
returns-clause-numbers c = task_numbers

pub returns-clause-expiry : goal.returns-clause-expiry
returns-clause-expiry c = task_expiry
