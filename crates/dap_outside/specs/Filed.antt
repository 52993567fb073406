-- Files in memory, by their names.
use Rattle.std.specs.Prelude.{ℕ, ◌+◌, List, [], ◌∷◌, Bool, Option, Some, None, if◌then◌else◌, String, Vec, string_bytes}
use Rattle.std.specs.Str.{bytes_eq}
use Rattle.std.specs.declared.alloc.Global.{Global}
use Rattle.dap_outside.specs.Plan.{failed_calls, fails_next, calls_after}
use Rattle.dap_outside.specs.declared.files.MemFiles.{MemFiles}

-- what the first file of a name holds, if there is one
abbrev pub file_in : List (String Global × Vec ℕ Global) → List ℕ → Option (List ℕ)
file_in [] name = None
file_in (file ∷ more) name = if bytes_eq (string_bytes file.0) name then Some file.1.items else file_in more name

-- the same for files in memory
abbrev pub file_of : MemFiles → List ℕ → Option (List ℕ)
file_of f name = file_in f.files.items name

-- how many readings were made
abbrev pub files_read : MemFiles → ℕ
files_read f = f.plan.calls

-- how often a file was asked for that isn't there
abbrev pub files_missed : MemFiles → ℕ
files_missed f = f.missed

-- how often a reading has failed
abbrev pub faults_of : MemFiles → ℕ
faults_of f = failed_calls f.plan + f.missed

-- the next reading is one of those that fail
abbrev pub reading_fails : MemFiles → Bool
reading_fails f = fails_next f.plan

-- what `files_missed` is after a reading: one more where the file isn't there, unless the reading is one of those that fail
abbrev pub missed_of : Option (List ℕ) → Bool → ℕ → ℕ
missed_of None fails missed = if fails then missed else calls_after missed
missed_of (Some bytes) fails missed = missed

abbrev pub missed_after : MemFiles → List ℕ → ℕ
missed_after f name = missed_of (file_of f name) (reading_fails f) f.missed
