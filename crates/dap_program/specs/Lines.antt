-- The lines of a script that are run, and why none are.
use Rattle.std.specs.Prelude.{ℕ, ◌+◌, List, [], ◌∷◌, length, nat_lt, Bool, true, false, if◌then◌else◌, Option, Some, None, Result, Ok, Err}
use Rattle.std.specs.Option.{option_map_or}
use Rattle.dap_bytes.specs.declared.limits.TheConstants.{LONGEST_SCRIPT}
use Rattle.dap_tasks.specs.Task.{PlainTask}
use Rattle.dap_script.specs.Script.{is_longer, script_beside}
use Rattle.dap_script.specs.declared.line.Line.{Line}
use Rattle.dap_script.specs.declared.line.Line.TheVariants as line
use Rattle.dap_model.specs.Limits.{full_line_of}
use Rattle.dap_model.specs.State.{names_of, opening}
use Rattle.dap_program.specs.declared.lines.TheConstants.{MAX_LINES, MAX_TASKS}
use Rattle.dap_program.specs.declared.status.Status.{Status}
use Rattle.dap_program.specs.declared.status.Status.TheVariants.{ScriptRefused, NotYet, Limit}

-- a line of a form that isn't run yet: `restart`
abbrev pub is_later : Line → Bool
is_later line.Blank = false
is_later (line.Task name kind min precision expires) = false
is_later (line.Now t) = false
is_later (line.Measure name id time value seed) = false
is_later (line.Upload report) = false
is_later (line.Collect name span) = false
is_later (line.Restart node) = true

-- the first such line of these, of which the first is number n
abbrev pub later_from : ℕ → List Line → Option ℕ
later_from n [] = None
later_from n (l ∷ lines) = if is_later l then Some n else later_from (n + 1) lines

-- the first such line, counted from 1
abbrev pub later_line_of : List Line → Option ℕ
later_line_of lines = later_from 1 lines

-- the lines, if not too many tasks are known with them
abbrev pub with_few_tasks : List PlainTask → List Line → Result (List Line) Status
with_few_tasks given lines =
    option_map_or (λ n. Err (Limit n 1)) (full_line_of MAX_TASKS (opening given) lines) (Ok lines)

-- the lines, if each is of a form that is run
abbrev pub with_forms : List PlainTask → List Line → Result (List Line) Status
with_forms given lines = option_map_or (λ n. Err (NotYet n)) (later_line_of lines) (with_few_tasks given lines)

-- the lines that are read, if they are run
abbrev pub with_lines : List PlainTask → Result (List Line) ℕ → Result (List Line) Status
with_lines given (Ok lines) = with_forms given lines
with_lines given (Err n) = Err (ScriptRefused n)

-- The lines of a script that are run beside the given tasks, or the first status in this order: too many bytes, too many
-- lines, a line that is refused, one that isn't run yet, too many tasks.
abbrev pub lines_run : List PlainTask → List ℕ → Result (List Line) Status
lines_run given script =
    if nat_lt LONGEST_SCRIPT (length script) then Err (Limit 0 5)
    else (if is_longer script MAX_LINES then Err (Limit (MAX_LINES + 1) 4)
    else with_lines given (script_beside (names_of given) script))
