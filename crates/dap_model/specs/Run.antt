-- The plain run: what a whole script prints.
use Rattle.std.specs.Prelude.{ℕ, ◌+◌, List, [], ◌∷◌, ◌++◌}
use Rattle.vdaf_api.specs.Functions.{Functions}
use Rattle.vdaf_api.specs.declared.kind.Kind.{Kind}
use Rattle.dap_tasks.specs.Task.{PlainTask}
use Rattle.dap_tasks.specs.Trial.{trial_of}
use Rattle.dap_script.specs.declared.line.Line.{Line}
use Rattle.dap_script.specs.declared.line.Line.TheVariants as line
use Rattle.dap_model.specs.Printed.{text_of}
use Rattle.dap_model.specs.State.{State, with_tasks}
use Rattle.dap_model.specs.Step.{step}
use Rattle.dap_model.specs.declared.printed.Printed.{Printed}

-- the trial task that a line gives, and none for other lines
abbrev pub task_in : Line → List PlainTask
task_in line.Blank = []
task_in (line.Task name kind min precision expires) = trial_of name kind min precision expires ∷ []
task_in (line.Now t) = []
task_in (line.Measure name id time value seed) = []
task_in (line.Upload report) = []
task_in (line.Collect name span) = []
task_in (line.Restart node) = []

-- the trial tasks that lines give
abbrev pub tasks_of : List Line → List PlainTask
tasks_of [] = []
tasks_of (l ∷ more) = task_in l ++ tasks_of more

-- the printed lines of these lines, of which the first is number k
abbrev pub printed_from : (Kind → Functions) → State → ℕ → List Line → List Printed
printed_from f s k [] = []
printed_from f s k (l ∷ more) = (step f s k l).1 ++ printed_from f (step f s k l).0 (k + 1) more

-- the state after these lines, of which the first is number k
abbrev pub state_after : (Kind → Functions) → State → ℕ → List Line → State
state_after f s k [] = s
state_after f s k (l ∷ more) = state_after f (step f s k l).0 (k + 1) more

-- the state in which a script begins: the one before it, in which the script's own tasks are known too
abbrev pub opening_of : State → List Line → State
opening_of opened lines = with_tasks opened (tasks_of lines)

-- what a script prints that begins in this state
abbrev pub model_text : (Kind → Functions) → State → List Line → List ℕ
model_text f opened lines = text_of (printed_from f (opening_of opened lines) 1 lines)
