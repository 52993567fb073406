use Rattle.std.proofs.Common.{inl, inr}
use Rattle.dap_tasks.proofs.FileLaws.{refusal_of, of_file, of_first}
use Rattle.dap_tasks.proofs.laws.refusals_name_the_first_task.Goals as goal

pub returns : goal.returns
returns c bytes refusal = (refusal_of bytes refusal, λ h. elim h [ inl file ↦ of_file bytes refusal file | inr task ↦ of_first bytes refusal task ])
