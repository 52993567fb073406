-- The commands, as lists of words.
use Rattle.std.specs.Prelude.{◌≡◌, ℕ, ◌-◌, ◌<◌, ◌≤◌, ◌^◌, List, [], ◌∷◌, ◌++◌, map, length, take, codes, Bool, true, false, if◌then◌else◌, Option, Some, None, Result, Ok, Err, String, string_bytes}
use Rattle.std.specs.Borrow.{Bor}
use Rattle.std.specs.Fmt.{decimal}
use Rattle.std.specs.Option.{option_map, option_map_or}
use Rattle.std.specs.Str.{bytes_eq}
use Rattle.std.specs.declared.alloc.Global.{Global}
use Rattle.load_maker.specs.declared.script.TheConstants.{MOST_MEASUREMENTS}
use Rattle.dap_script.specs.Fields.{bounded_of, number_of}
use Rattle.dap_program.specs.declared.words.Command.{Command}
use Rattle.dap_program.specs.declared.words.Command.TheVariants.{Run, Check, Load, Help, Version}

-- the words as texts
abbrev pub word_texts : List (String Global) → List (List ℕ)
word_texts words = map string_bytes words

-- a command: a run with or without a task file, a check of a task file, a load of so many measurements with a seed, or the
-- program's own help or version
pub data PlainCommand : Type 0 where
  Running : Option (List ℕ) → PlainCommand
  Checking : List ℕ → PlainCommand
  Loading : ℕ → ℕ → PlainCommand
  Helping : PlainCommand
  Versioning : PlainCommand

-- a text that names a task file: any but the empty one and the words of the further parts of a run
abbrev pub names_file : List ℕ → Bool
names_file word =
    if bytes_eq word (codes "") then false
    else (if bytes_eq word (codes "lanes") then false
    else (if bytes_eq word (codes "workers") then false
    else (if bytes_eq word (codes "loss") then false
    else (if bytes_eq word (codes "store") then false
    else true))))

-- ---- in terms of the commands

-- the words of a command
abbrev pub words_of : PlainCommand → List (List ℕ)
words_of (Running None) = codes "run" ∷ []
words_of (Running (Some file)) = codes "run" ∷ file ∷ []
words_of (Checking file) = codes "check" ∷ file ∷ []
words_of (Loading reports seed) = codes "load" ∷ decimal reports ∷ decimal seed ∷ []
words_of Helping = codes "--help" ∷ []
words_of Versioning = codes "--version" ∷ []

-- its file, if it has one, is named by such a text, and its numbers are in their ranges
abbrev pub IsAllowed : PlainCommand → Type 0
IsAllowed (Running None) = Unit {0}
IsAllowed (Running (Some file)) = names_file file ≡ true
IsAllowed (Checking file) = names_file file ≡ true
IsAllowed (Loading reports seed) = (1 ≤ reports) × (reports ≤ MOST_MEASUREMENTS) × (seed < 2 ^ 64)
IsAllowed Helping = Unit {0}
IsAllowed Versioning = Unit {0}

-- the words are the command's
pub record IsCommand (words : List (List ℕ)) (command : PlainCommand) : Type 0 where
  pub allowed : IsAllowed command
  pub spelled : words ≡ words_of command

-- the words are a prefix of a command
pub record BeginsCommand (words : List (List ℕ)) : Type 0 where
  pub command : PlainCommand
  pub allowed : IsAllowed command
  pub more : List (List ℕ)
  pub whole : words ++ more ≡ words_of command

-- The words are no command, and word n, counted from 1, is the one after their longest prefix that is also a prefix of a
-- command.
pub record IsFaultyWord (words : List (List ℕ)) (n : ℕ) : Type 0 where
  pub none : (command : PlainCommand) → IsCommand words command → ⊥
  pub some : 1 ≤ n
  pub within : n - 1 ≤ length words
  pub begins : BeginsCommand (take (n - 1) words)
  pub longest : (k : ℕ) → k ≤ length words → BeginsCommand (take k words) → k ≤ n - 1

-- ---- as it is computed

-- the task file of a command, from the words behind its first, or the number of the faulty word
abbrev pub file_behind : List (List ℕ) → Result (Option (List ℕ)) ℕ
file_behind [] = Ok None
file_behind (file ∷ []) = if names_file file then Ok (Some file) else Err 2
file_behind (file ∷ next ∷ more) = if names_file file then Err 3 else Err 2

-- a run with this task file
abbrev pub running : Result (Option (List ℕ)) ℕ → Result PlainCommand ℕ
running (Ok file) = Ok (Running file)
running (Err word) = Err word

-- a check of this task file, which has to be there
abbrev pub checking : Result (Option (List ℕ)) ℕ → Result PlainCommand ℕ
checking (Ok None) = Err 2
checking (Ok (Some file)) = Ok (Checking file)
checking (Err word) = Err word

-- a command behind whose words nothing stands, or the number of the word that stands there
abbrev pub ending : PlainCommand → ℕ → List (List ℕ) → Result PlainCommand ℕ
ending command n [] = Ok command
ending command n (word ∷ more) = Err n

-- a load of so many measurements, from the words behind their number
abbrev pub load_with : ℕ → List (List ℕ) → Result PlainCommand ℕ
load_with reports [] = Err 3
load_with reports (seed ∷ words) = option_map_or (λ s. ending (Loading reports s) 4 words) (number_of seed) (Err 3)

-- a load, from the words behind its first
abbrev pub load_behind : List (List ℕ) → Result PlainCommand ℕ
load_behind [] = Err 2
load_behind (reports ∷ words) = option_map_or (λ n. load_with n words) (bounded_of 1 MOST_MEASUREMENTS reports) (Err 2)

-- the command that the words are, or the number of the faulty word
abbrev pub command_of : List (List ℕ) → Result PlainCommand ℕ
command_of [] = Err 1
command_of (verb ∷ words) =
    if bytes_eq verb (codes "run") then running (file_behind words)
    else (if bytes_eq verb (codes "check") then checking (file_behind words)
    else (if bytes_eq verb (codes "load") then load_behind words
    else (if bytes_eq verb (codes "--help") then ending Helping 2 words
    else (if bytes_eq verb (codes "--version") then ending Versioning 2 words
    else Err 1))))

-- the name that may be there, without its place
abbrev pub plain_name : Option (Bor (List ℕ)) → Option (List ℕ)
plain_name name = option_map (λ n. n.now) name

-- likewise where a word may be faulty
abbrev pub plain_file : Result (Option (Bor (List ℕ))) ℕ → Result (Option (List ℕ)) ℕ
plain_file (Ok file) = Ok (plain_name file)
plain_file (Err word) = Err word

-- a command without the places of its texts
abbrev pub plain : Command → PlainCommand
plain (Run tasks) = Running (plain_name tasks)
plain (Check tasks) = Checking tasks.now
plain (Load reports seed) = Loading reports seed
plain Help = Helping
plain Version = Versioning

-- likewise where there may be none
abbrev pub plain_answer : Result Command ℕ → Result PlainCommand ℕ
plain_answer (Ok command) = Ok (plain command)
plain_answer (Err word) = Err word
