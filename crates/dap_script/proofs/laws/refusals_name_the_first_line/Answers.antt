use Rattle.dap_script.proofs.ScriptLaws.{fault_is_first, script_beside-first_fault}
use Rattle.dap_script.proofs.laws.refusals_name_the_first_line.Goals as goal

pub returns : goal.returns
returns c names bytes n = (fault_is_first names bytes n, script_beside-first_fault names bytes n)
