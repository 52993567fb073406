-- What a command comes to.
use Rattle.std.specs.Prelude.{◌≡◌, ◌⊎◌, ℕ, ◌+◌, ◌<◌, List, [], length, ◌+◌, true, Option, Some, None, Result, Ok, Err}
use Rattle.std.specs.Io.KnownBytes.{Appends}
use Rattle.std.specs.List.{flat_map}
use Rattle.dap_bytes.specs.declared.limits.TheConstants.{LONGEST_SCRIPT}
use Rattle.prio3_kinds.specs.Kinds.{functions_of_kind}
use Rattle.dap_tasks.specs.File.{Refusal, tasks_of}
use Rattle.dap_tasks.specs.Task.{PlainTask}
use Rattle.dap_script.specs.Script.{is_longer, script_beside}
use Rattle.dap_script.specs.Spelling.{ended}
use Rattle.dap_script.specs.declared.line.Line.{Line}
use Rattle.dap_script.specs.declared.line.Line.TheVariants.{Task}
use Rattle.dap_model.specs.Limits.{Passed, passed_in, text_before}
use Rattle.dap_model.specs.Passes.{IsFull}
use Rattle.dap_model.specs.Run.{model_text}
use Rattle.dap_model.specs.State.{names_of, opening}
use Rattle.dap_model.specs.declared.limits.Limits.{Limits}
use Rattle.load_maker.specs.Load.{load_text}
use Rattle.dap_program.specs.Lines.{later_line_of, lines_run}
use Rattle.dap_program.specs.Transfer.{AppendsPart}
use Rattle.dap_program.specs.Work.{Work, Scripted, Checked, Loaded, Helped, Versioned}
use Rattle.dap_program.specs.declared.help.TheConstants.{HELP, VERSION}
use Rattle.dap_program.specs.declared.lines.TheConstants.{MAX_LINES, MAX_TASKS}
use Rattle.dap_program.specs.declared.status.Status.{Status}
use Rattle.dap_program.specs.declared.status.Status.TheVariants.{Done, Usage, TasksRefused, ScriptRefused, NotYet, ReadFault, WriteFault, Limit, NoMemory}

-- how a work ends where nothing fails: the status, and what is printed
pub record Outcome : Type 0 where
  pub status : Status
  pub text : List ℕ

-- the limits of a run: 50,000 reports, and 268,435,456 bytes of them
abbrev pub run_limits : Limits
run_limits = record { reports = 50000; bytes = 268435456 }

-- ---- a script

-- The model's text from the state in which the given tasks are known and nothing else is; or, where a limit of the run is
-- passed, the text of the segments before the line with which it is.
abbrev pub run_outcome : List PlainTask → List Line → Option Passed → Outcome
run_outcome given lines None = record { status = Done; text = model_text functions_of_kind (opening given) lines }
run_outcome given lines (Some passed) = record {
  status = Limit passed.line passed.limit;
  text = text_before functions_of_kind (opening given) lines passed.line;
}

-- the outcome of lines that are run, or of a script of which none are
abbrev pub lines_outcome : List PlainTask → Result (List Line) Status → Outcome
lines_outcome given (Ok lines) = run_outcome given lines (passed_in functions_of_kind run_limits (opening given) lines)
lines_outcome given (Err status) = record { status = status; text = [] }

-- the outcome of a script beside the tasks of a file, or of a file that is refused
abbrev pub script_outcome : Result (List PlainTask) Refusal → List ℕ → Outcome
script_outcome (Ok given) script = lines_outcome given (lines_run given script)
script_outcome (Err refusal) script = record { status = TasksRefused refusal.task refusal.field; text = [] }

-- the tasks of the file that is named, and none where none is
abbrev pub given_tasks : Option (List ℕ) → Result (List PlainTask) Refusal
given_tasks None = Ok []
given_tasks (Some file) = tasks_of file

-- ---- a check

-- the line of a task and its end
abbrev pub task_line : PlainTask → List ℕ
task_line task = ended (Task task.name task.kind task.min task.precision task.expires)

-- the lines of the tasks of a file, or a file that is refused
abbrev pub check_outcome : Result (List PlainTask) Refusal → Outcome
check_outcome (Ok tasks) = record { status = Done; text = flat_map task_line tasks }
check_outcome (Err refusal) = record { status = TasksRefused refusal.task refusal.field; text = [] }

-- ---- a text

-- a text that is printed whole
abbrev pub printing : List ℕ → Outcome
printing text = record { status = Done; text = text }

-- ---- each work

-- how a work ends
abbrev pub outcome_of : Work → Outcome
outcome_of (Scripted file script) = script_outcome (given_tasks file) script
outcome_of (Checked file) = check_outcome (tasks_of file)
outcome_of (Loaded reports seed) = printing (load_text reports seed)
outcome_of Helped = printing HELP.now
outcome_of Versioned = printing VERSION.now

-- what a work comes to, where nothing fails
abbrev pub status_of : Work → Status
status_of work = (outcome_of work).status

-- what a work prints, where nothing fails
abbrev pub output_of : Work → List ℕ
output_of work = (outcome_of work).text

-- ---- what a status says of the work

-- this field of this task is the first that is refused in the file
abbrev pub IsTasksRefused : List ℕ → ℕ → List ℕ → Type 0
IsTasksRefused file task field = tasks_of file ≡ Err (record { task = task; field = field })

-- the file reads, and this is the first line that is refused beside its tasks
abbrev pub IsScriptRefused : Work → ℕ → Type 0
IsScriptRefused (Scripted file script) line =
    (given : List PlainTask) × (given_tasks file ≡ Ok given) × (script_beside (names_of given) script ≡ Err line)
IsScriptRefused (Checked file) line = ⊥
IsScriptRefused (Loaded reports seed) line = ⊥
IsScriptRefused Helped line = ⊥
IsScriptRefused Versioned line = ⊥

-- the file and the script read: the tasks of the one, and the lines of the other
pub record Reads (file : Option (List ℕ)) (script : List ℕ) : Type 0 where
  pub given : List PlainTask
  pub lines : List Line
  pub tasks_read : given_tasks file ≡ Ok given
  pub script_read : script_beside (names_of given) script ≡ Ok lines

-- they read, and this is the first line that isn't run yet
abbrev pub IsNotYet : Work → ℕ → Type 0
IsNotYet (Scripted file script) n = (r : Reads file script) × (later_line_of r.lines ≡ Some n)
IsNotYet (Checked file) n = ⊥
IsNotYet (Loaded reports seed) n = ⊥
IsNotYet Helped n = ⊥
IsNotYet Versioned n = ⊥

-- Limit 5: the script has too many bytes, and no line is named.
abbrev pub HasTooManyBytes : List ℕ → ℕ → ℕ → Type 0
HasTooManyBytes script line limit = (limit ≡ 5) × (line ≡ 0) × (LONGEST_SCRIPT < length script)

-- Limit 4: it has too many lines, and the first beyond them is named.
abbrev pub HasTooManyLines : List ℕ → ℕ → ℕ → Type 0
HasTooManyLines script line limit = (limit ≡ 4) × (line ≡ MAX_LINES + 1) × (is_longer script MAX_LINES ≡ true)

-- Limit 1: too many tasks are known with this line, and not before.
abbrev pub HasTooManyTasks : (file : Option (List ℕ)) → (script : List ℕ) → Reads file script → ℕ → ℕ → Type 0
HasTooManyTasks file script r line limit = (limit ≡ 1) × IsFull MAX_TASKS (opening r.given) r.lines line

-- Limits 2 and 3: too many reports or too many bytes of reports are offered with this line, and not before.
abbrev pub OffersTooMuch : (file : Option (List ℕ)) → (script : List ℕ) → Reads file script → ℕ → ℕ → Type 0
OffersTooMuch file script r line limit =
    passed_in functions_of_kind run_limits (opening r.given) r.lines ≡ Some (record { line = line; limit = limit })

-- the limit of this number is passed with this line
abbrev pub IsPassed : Work → ℕ → ℕ → Type 0
IsPassed (Scripted file script) line limit =
    HasTooManyBytes script line limit ⊎ HasTooManyLines script line limit
    ⊎ ((r : Reads file script) × (HasTooManyTasks file script r line limit ⊎ OffersTooMuch file script r line limit))
IsPassed (Checked file) line limit = ⊥
IsPassed (Loaded reports seed) line limit = ⊥
IsPassed Helped line limit = ⊥
IsPassed Versioned line limit = ⊥

-- ---- how a call ends

-- what may come at any time: a fault of a device, or want of memory
abbrev pub IsStop : Status → Type 0
IsStop status = (status ≡ ReadFault) ⊎ (status ≡ WriteFault) ⊎ (status ≡ NoMemory)

-- The held bytes grew by the text, or by a front of it where a failing sink or want of memory came in between.
abbrev pub Prints : Status → Option (List ℕ) → Option (List ℕ) → List ℕ → Type 0
Prints Done old new text = Appends old new text
Prints (Usage word) old new text = Appends old new text
Prints (TasksRefused task field) old new text = Appends old new text
Prints (ScriptRefused line) old new text = Appends old new text
Prints (NotYet line) old new text = Appends old new text
Prints (Limit line limit) old new text = Appends old new text
Prints ReadFault old new text = AppendsPart old new text
Prints WriteFault old new text = AppendsPart old new text
Prints NoMemory old new text = AppendsPart old new text

-- answers that come before anything is printed
abbrev pub IsSilent : Status → Type 0
IsSilent Done = ⊥
IsSilent (Usage word) = Unit {0}
IsSilent (TasksRefused task field) = Unit {0}
IsSilent (ScriptRefused line) = Unit {0}
IsSilent (NotYet line) = Unit {0}
IsSilent ReadFault = Unit {0}
IsSilent WriteFault = ⊥
IsSilent (Limit line limit) = (limit ≡ 1) ⊎ (limit ≡ 4) ⊎ (limit ≡ 5)
IsSilent NoMemory = ⊥
