use Rattle.std.proofs.Common.{[]}
use Rattle.dap_script.proofs.ScriptLaws.{alone_beside, script_beside-spelling, script_spelled}
use Rattle.dap_script.proofs.laws.scripts_are_spelled.Goals as goal

pub returns-clause-beside : goal.returns-clause-beside
returns-clause-beside c names bytes lines = (script_spelled names bytes lines, script_beside-spelling names bytes lines)

pub returns-clause-alone : goal.returns-clause-alone
returns-clause-alone c bytes lines = (
  λ h. let s = script_spelled [] bytes lines h in (s.spelled, s.is_script.is_script),
  λ s. script_beside-spelling [] bytes lines (record { spelled = s.0; is_script = alone_beside lines s.1 }),
)
