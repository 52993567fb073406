-- What reading a script answers.
use Rattle.std.specs.Prelude.{◌≡◌, ℕ, List, Result, Ok, Err, Vec}
use Rattle.std.specs.declared.alloc.Global.{Global}
use Rattle.dap_script.specs.declared.line.Line.{Line}
use Rattle.dap_script.specs.declared.fault.ScriptFault.{ScriptFault}
use Rattle.dap_script.specs.declared.fault.ScriptFault.TheVariants.{Refused, NoMemory}

-- the number of the line that a fault names, which want of memory has none of
abbrev pub Fails : ScriptFault → Result (List Line) ℕ → Type 0
Fails (Refused line) read = read ≡ Err line
Fails NoMemory read = Unit {0}

-- The lines that a script is, or the first line that is refused, unless memory ran out.
abbrev pub Reads : Result (Vec Line Global) ScriptFault → Result (List Line) ℕ → Type 0
Reads (Ok lines) read = read ≡ Ok lines.items
Reads (Err fault) read = Fails fault read
