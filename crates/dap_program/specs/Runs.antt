-- What the parts of a run answer: what they are to give, or a fault.
use Rattle.std.specs.Prelude.{◌≡◌, ◌⊎◌, ℕ, List, Option, Result, Ok, Err, Vec}
use Rattle.std.specs.declared.alloc.Global.{Global}
use Rattle.dap_tasks.specs.File.{Refusal}
use Rattle.dap_tasks.specs.Task.{PlainTask}
use Rattle.dap_script.specs.declared.line.Line.{Line}
use Rattle.dap_program.specs.Headline.{IsStop, Outcome, Prints}
use Rattle.dap_program.specs.Lines.{lines_run}
use Rattle.dap_program.specs.declared.status.Status.{Status}
use Rattle.dap_program.specs.declared.status.Status.TheVariants.{Done, TasksRefused, ScriptRefused, NotYet, ReadFault, WriteFault, Limit, NoMemory}

-- the lines that are run, or the status of a script of which none are
abbrev pub Plans : Result (Vec Line Global) Status → List PlainTask → List ℕ → Type 0
Plans (Ok lines) given script = lines_run given script ≡ Ok lines.items
Plans (Err status) given script = (status ≡ NoMemory) ⊎ (lines_run given script ≡ Err status)

-- the tasks of a file, or the status of one that is refused
abbrev pub Gives : Result (Vec PlainTask Global) Status → Result (List PlainTask) Refusal → Type 0
Gives (Ok tasks) read = read ≡ Ok tasks.items
Gives (Err status) read =
    (status ≡ ReadFault) ⊎ (status ≡ NoMemory)
    ⊎ ((refusal : Refusal) × (read ≡ Err refusal) × (status ≡ TasksRefused refusal.task refusal.field))

-- a fault of the files, a refusal or want of memory
abbrev pub IsFileStop : Status → Type 0
IsFileStop status =
    (status ≡ ReadFault) ⊎ (status ≡ NoMemory)
    ⊎ ((task : ℕ) × (field : List ℕ) × (status ≡ TasksRefused task field))

-- a limit that is passed while lines are run, a fault of the sink or want of memory
abbrev pub IsRunStop : Status → Type 0
IsRunStop status =
    ((line : ℕ) × ((status ≡ Limit line 2) ⊎ (status ≡ Limit line 3))) ⊎ (status ≡ WriteFault) ⊎ (status ≡ NoMemory)

-- what a script may be stopped by once its bytes are read
abbrev pub IsScriptStop : Status → Type 0
IsScriptStop status =
    ((line : ℕ) × ((status ≡ ScriptRefused line) ⊎ (status ≡ NotYet line)))
    ⊎ ((line limit : ℕ) × (status ≡ Limit line limit)) ⊎ (status ≡ WriteFault) ⊎ (status ≡ NoMemory)

-- what the printing of a text may be stopped by
abbrev pub IsPrintStop : Status → Type 0
IsPrintStop status = (status ≡ WriteFault) ⊎ (status ≡ NoMemory)

-- what a check may be stopped by
abbrev pub IsCheckStop : Status → Type 0
IsCheckStop status = IsFileStop status ⊎ IsPrintStop status

-- the status of an answer
abbrev pub status_after : Result (Unit {0}) Status → Status
status_after (Ok done) = Done
status_after (Err status) = status

-- the answer is the outcome's, and so is what was printed, or a fault came in between
pub record Ends (status : Status) (old new : Option (List ℕ)) (outcome : Outcome) : Type 0 where
  pub exact : IsStop status ⊎ (status ≡ outcome.status)
  pub printed : Prints status old new outcome.text
