-- Which status an error becomes, and the number and the text of a status.
use Rattle.std.specs.Prelude.{ℕ, List, [], ◌∷◌, ◌++◌, codes, nat_eq, if◌then◌else◌}
use Rattle.std.specs.Fmt.{decimal}
use Rattle.dap_outside.specs.declared.files.FileFault.{FileFault}
use Rattle.dap_outside.specs.declared.files.FileFault.TheVariants as file
use Rattle.dap_outside.specs.declared.sink.SinkFault.{SinkFault}
use Rattle.dap_outside.specs.declared.sink.SinkFault.TheVariants as sink
use Rattle.dap_tasks.specs.declared.fault.TasksFault.{TasksFault}
use Rattle.dap_tasks.specs.declared.fault.TasksFault.TheVariants as tasks
use Rattle.dap_script.specs.declared.fault.ScriptFault.{ScriptFault}
use Rattle.dap_script.specs.declared.fault.ScriptFault.TheVariants as script
use Rattle.dap_program.specs.declared.status.Status.{Status}
use Rattle.dap_program.specs.declared.status.Status.TheVariants.{Done, Usage, TasksRefused, ScriptRefused, NotYet, ReadFault, WriteFault, Limit, NoMemory}

-- the status of a sink's fault
abbrev pub after_sink : SinkFault → Status
after_sink sink.Failed = WriteFault
after_sink sink.NoMemory = NoMemory

-- the status of a file's fault
abbrev pub after_file : FileFault → Status
after_file file.Failed = ReadFault
after_file file.NoMemory = NoMemory

-- the status of a task file that isn't read
abbrev pub after_tasks : TasksFault → Status
after_tasks (tasks.Refused task field) = TasksRefused task field
after_tasks tasks.NoMemory = NoMemory

-- the status of a script that isn't read
abbrev pub after_script : ScriptFault → Status
after_script (script.Refused line) = ScriptRefused line
after_script script.NoMemory = NoMemory

-- the number with which the process ends
abbrev pub number_of : Status → ℕ
number_of Done = 0
number_of (Usage word) = 1
number_of (TasksRefused task field) = 2
number_of (ScriptRefused line) = 3
number_of ReadFault = 4
number_of WriteFault = 5
number_of (Limit line limit) = 11
number_of NoMemory = 12
number_of (NotYet line) = 13

-- the text of a status, as it is printed on standard error behind the name of the program
abbrev pub text_of : Status → List ℕ
text_of Done = codes "done"
text_of (Usage word) = codes "usage: word " ++ decimal word
text_of (TasksRefused task field) = codes "tasks refused: task " ++ decimal task ++ codes " field " ++ field
text_of (ScriptRefused line) = codes "script refused: line " ++ decimal line
text_of (NotYet line) = codes "not yet: line " ++ decimal line
text_of ReadFault = codes "read fault"
text_of WriteFault = codes "write fault"
text_of (Limit line limit) = codes "limit " ++ decimal limit ++ codes " at line " ++ decimal line
text_of NoMemory = codes "no memory"

-- what is told of a status on standard error: nothing where the process ends with 0, else its text in a line
abbrev pub told_of : Status → List ℕ
told_of status = if nat_eq (number_of status) 0 then [] else codes "dap: " ++ text_of status ++ 10 ∷ []
