-- What is printed so far, and how much of it before a limit is passed.
use Rattle.std.specs.Prelude.{◌≡◌, ◌≤◌, List, length, take}
use Rattle.vdaf_api.specs.Functions.{Functions}
use Rattle.vdaf_api.specs.declared.kind.Kind.{Kind}
use Rattle.dap_tasks.specs.Task.{PlainTask}
use Rattle.dap_script.specs.declared.line.Line.{Line}
use Rattle.dap_model.specs.Limits.{whole_segments}
use Rattle.dap_model.specs.Printed.{text_of}
use Rattle.dap_model.specs.Run.{printed_from}
use Rattle.dap_model.specs.State.{opening}
use Rattle.dap_direct.specs.declared.told.Told.{Told}

-- the text of these lines of a script, and within it that of their whole segments
pub record IsToldOf (f : Kind → Functions) (tasks : List PlainTask) (done : List Line) (t : Told) : Type 0 where
  pub text : t.text.items ≡ text_of (printed_from f (opening tasks) 1 done)
  pub within : t.whole ≤ length t.text.items
  pub whole : take t.whole t.text.items ≡ text_of (printed_from f (opening tasks) 1 (whole_segments done))
