-- A script: its lines, no two of which name the same task.
use Rattle.std.specs.Prelude.{ℕ, ◌+◌, List, [], ◌∷◌, ◌++◌, length, Bool, ◌||◌, not, nat_lt, if◌then◌else◌, Option, Some, None, Result, Ok, Err}
use Rattle.std.specs.List.{list_all, list_any}
use Rattle.std.specs.Option.{option_map_or}
use Rattle.std.specs.Str.{bytes_eq}
use Rattle.std.specs.Str.Lines.{lines}
use Rattle.dap_script.specs.Line.{line_of}
use Rattle.dap_script.specs.declared.line.Line.{Line}
use Rattle.dap_script.specs.declared.line.Line.TheVariants.{Blank, Task, Now, Measure, Upload, Collect, Restart}

-- Lines end with a line feed, which the last one may lack, and before which a carriage return is dropped.
abbrev pub lines_of : List ℕ → List (List ℕ)
lines_of bytes = lines bytes

-- the name that a task line gives, and none for other lines
abbrev pub task_name : Line → List (List ℕ)
task_name Blank = []
task_name (Task name kind min precision expires) = name ∷ []
task_name (Now t) = []
task_name (Measure name id time value seed) = []
task_name (Upload report) = []
task_name (Collect name span) = []
task_name (Restart node) = []

-- the names of the task lines, in order
abbrev pub task_names : List Line → List (List ℕ)
task_names [] = []
task_names (line ∷ lines) = task_name line ++ task_names lines

-- the name is one of these
abbrev pub is_among : List (List ℕ) → List ℕ → Bool
is_among names wanted = list_any (λ name. bytes_eq name wanted) names

-- a task line of this name
abbrev pub names_task : List ℕ → Line → Bool
names_task wanted line = is_among (task_name line) wanted

-- the name is none of these, and none of the lines is a task line of it
abbrev pub is_new : List (List ℕ) → List Line → List ℕ → Bool
is_new names before name = not (is_among names name || list_any (names_task name) before)

-- the line may follow these lines beside these names: the name that it gives to a task, if it gives one, is new
abbrev pub follows : List (List ℕ) → List Line → Line → Bool
follows names before line = list_all (is_new names before) (task_name line)

-- the line that a text is, if it may follow these lines beside these names
abbrev pub line_after : List (List ℕ) → List Line → List ℕ → Option Line
line_after names before text =
    option_map_or (λ line. if follows names before line then Some line else None) (line_of text) None

-- the lines, or the number of the first text that is none or may not follow those before it
abbrev pub read_after : List (List ℕ) → List Line → List (List ℕ) → Result (List Line) ℕ
read_after names before [] = Ok before
read_after names before (text ∷ more) =
    option_map_or (λ line. read_after names (before ++ line ∷ []) more)
    (line_after names before text) (Err (length before + 1))

-- the lines of a script beside names that its tasks may not have, or the number of the first that is refused
abbrev pub script_beside : List (List ℕ) → List ℕ → Result (List Line) ℕ
script_beside names bytes = read_after names [] (lines_of bytes)

-- the lines of a script alone, or the number of the first that is refused
abbrev pub script_of : List ℕ → Result (List Line) ℕ
script_of bytes = script_beside [] bytes

-- the text has more lines than this
abbrev pub is_longer : List ℕ → ℕ → Bool
is_longer bytes most = nat_lt most (length (lines_of bytes))
