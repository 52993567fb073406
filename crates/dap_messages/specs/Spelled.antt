-- What the readers and writers of the code answer.
use Rattle.std.specs.Prelude.{◌≡◌, ℕ, List, Result, Ok, Err}
use Rattle.dap_bytes.specs.Cursor.{Reading}
use Rattle.dap_messages.specs.declared.fault.Form.{Form}
use Rattle.dap_messages.specs.declared.fault.ReadFault.{ReadFault}
use Rattle.dap_messages.specs.declared.fault.ReadFault.TheVariants as faults
use Rattle.dap_messages.specs.Grammar.{Grammar, whole}

-- a field's reader
abbrev pub Finds : {A : Type 0} → Grammar A → Reading → Result A Form → Reading → Type 0
Finds g old (Ok x) new = g.read old ≡ Ok (x, new)
Finds g old (Err form) new = g.read old ≡ Err form.at

-- a reader that may run out of memory, against what is there to be read
abbrev pub Answers : {A : Type 0} → Result (A × Reading) ℕ → Result A ReadFault → Reading → Type 0
Answers read (Ok x) new = read ≡ Ok (x, new)
Answers read (Err (faults.Form at)) new = read ≡ Err at
Answers read (Err faults.NoMemory) new = Unit {0}

-- the same by a grammar
abbrev pub Gives : {A : Type 0} → Grammar A → Reading → Result A ReadFault → Reading → Type 0
Gives g old result new = Answers (g.read old) result new

-- a reader of a whole input
abbrev pub Reads : {A : Type 0} → Grammar A → List ℕ → Result A ReadFault → Type 0
Reads g input (Ok x) = whole g input ≡ Ok x
Reads g input (Err (faults.Form at)) = whole g input ≡ Err at
Reads g input (Err faults.NoMemory) = Unit {0}

-- this value and no other, unless memory ran out
abbrev pub IsOnly : {A : Type 0} → A → Result A ReadFault → Type 0
IsOnly x (Ok y) = y ≡ x
IsOnly x (Err (faults.Form at)) = ⊥
IsOnly x (Err faults.NoMemory) = Unit {0}
