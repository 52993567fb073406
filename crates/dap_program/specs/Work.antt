-- What a command works on, as far as the devices tell it.
use Rattle.std.specs.Prelude.{ℕ, List, Option, Some, None, IfSome, IfOk}
use Rattle.std.specs.Option.{option_and_then, option_map}
use Rattle.dap_program.specs.Words.{PlainCommand, Running, Checking, Loading, Helping, Versioning, command_of}

-- A script, with what the task file holds where one is named; what a task file alone holds; or a number of measurements and
-- a seed, the help and the version, which work on nothing else.
pub data Work : Type 0 where
  Scripted : Option (List ℕ) → List ℕ → Work
  Checked : List ℕ → Work
  Loaded : ℕ → ℕ → Work
  Helped : Work
  Versioned : Work

-- what the task file of a run holds, if none is named or that is told
abbrev pub file_told : Option (List ℕ) → (List ℕ → Option (List ℕ)) → Option (Option (List ℕ))
file_told None contents = Some None
file_told (Some name) contents = option_map Some (contents name)

-- the work of a command, where these bytes are left of the script and the files hold these
abbrev pub work_of : PlainCommand → Option (List ℕ) → (List ℕ → Option (List ℕ)) → Option Work
work_of (Running name) left contents =
    option_and_then (λ file. option_map (Scripted file) left) (file_told name contents)
work_of (Checking name) left contents = option_map Checked (contents name)
work_of (Loading reports seed) left contents = Some (Loaded reports seed)
work_of Helping left contents = Some Helped
work_of Versioning left contents = Some Versioned

-- what the command's task file holds, if one is named and it is told
abbrev pub file_of : PlainCommand → (List ℕ → Option (List ℕ)) → Option (List ℕ)
file_of (Running name) contents = option_and_then contents name
file_of (Checking name) contents = contents name
file_of (Loading reports seed) contents = None
file_of Helping contents = None
file_of Versioning contents = None

-- where the words are a command whose work is told, this holds of the work
abbrev pub IfTold : List (List ℕ) → Option (List ℕ) → (List ℕ → Option (List ℕ)) → (Work → Type 0) → Type 0
IfTold words left contents P = IfOk (command_of words) (λ command. IfSome (work_of command left contents) P)

-- where the words are a command whose task file is told, this holds of the file
abbrev pub IfFileTold : List (List ℕ) → (List ℕ → Option (List ℕ)) → (List ℕ → Type 0) → Type 0
IfFileTold words contents P = IfOk (command_of words) (λ command. IfSome (file_of command contents) P)

-- the words ask for a run, with a task file or without
abbrev pub IsRun : PlainCommand → Type 0
IsRun (Running file) = Unit {0}
IsRun (Checking file) = ⊥
IsRun (Loading reports seed) = ⊥
IsRun Helping = ⊥
IsRun Versioning = ⊥

-- the words ask for a check
abbrev pub IsCheck : PlainCommand → Type 0
IsCheck (Running file) = ⊥
IsCheck (Checking file) = Unit {0}
IsCheck (Loading reports seed) = ⊥
IsCheck Helping = ⊥
IsCheck Versioning = ⊥

-- the words name a task file, and this holds of its name
abbrev pub IfNamed : PlainCommand → (List ℕ → Type 0) → Type 0
IfNamed (Running None) P = ⊥
IfNamed (Running (Some name)) P = P name
IfNamed (Checking name) P = P name
IfNamed (Loading reports seed) P = ⊥
IfNamed Helping P = ⊥
IfNamed Versioning P = ⊥

-- the words name a task file
abbrev pub HasFile : PlainCommand → Type 0
HasFile (Running None) = ⊥
HasFile (Running (Some name)) = Unit {0}
HasFile (Checking name) = Unit {0}
HasFile (Loading reports seed) = ⊥
HasFile Helping = ⊥
HasFile Versioning = ⊥
