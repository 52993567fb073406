-- What reading a task file answers.
use Rattle.std.specs.Prelude.{◌≡◌, ℕ, List, map, Option, Result, Ok, Err, String, Vec}
use Rattle.std.specs.Borrow.{Bor}
use Rattle.std.specs.BTreeMap.{BTreeMap}
use Rattle.std.specs.Option.{option_map}
use Rattle.std.specs.declared.alloc.Global.{Global}
use Rattle.toml.specs.Data.{Data, Members, get_member}
use Rattle.toml.specs.View.{table_view}
use Rattle.toml.specs.declared.value.Value.{Value}
use Rattle.dap_tasks.specs.File.{Refusal}
use Rattle.dap_tasks.specs.Task.{PlainTask}
use Rattle.dap_tasks.specs.declared.fault.TasksFault.{TasksFault}
use Rattle.dap_tasks.specs.declared.fault.TasksFault.TheVariants.{Refused, NoMemory}
use Rattle.dap_tasks.specs.declared.table.TableFault.{TableFault}
use Rattle.dap_tasks.specs.declared.table.TableFault.TheVariants as table

-- the tables that are referred to
abbrev pub tables_seen : List (Bor (BTreeMap (String Global) Value)) → List Members
tables_seen tables = map (λ table. table_view table.now) tables

-- the value that a table has at a key
abbrev pub value_of : List ℕ → BTreeMap (String Global) Value → Option Data
value_of key table = get_member key (table_view table)

-- the tables that are referred to, where there are any
abbrev pub tables_told : Option (Vec (Bor (BTreeMap (String Global) Value)) Global) → Option (List Members)
tables_told tables = option_map (λ ts. tables_seen ts.items) tables

-- the refusal that a fault gives, which want of memory isn't
abbrev pub Fails : TasksFault → Result (List PlainTask) Refusal → Type 0
Fails (Refused task field) read = read ≡ Err (record { task = task; field = field })
Fails NoMemory read = Unit {0}

-- The tasks that a file has, or the first task and field that are refused, unless memory ran out.
abbrev pub Reads : Result (Vec PlainTask Global) TasksFault → Result (List PlainTask) Refusal → Type 0
Reads (Ok tasks) read = read ≡ Ok tasks.items
Reads (Err fault) read = Fails fault read

-- the key that a fault gives
abbrev pub FailsAt : {A : Type 0} → TableFault → Result A (List ℕ) → Type 0
FailsAt (table.Refused key) taken = taken ≡ Err key.now
FailsAt table.NoMemory taken = Unit {0}

-- What a table has, or the first key that is refused, unless memory ran out.
abbrev pub Takes : {A : Type 0} → Result A TableFault → Result A (List ℕ) → Type 0
Takes (Ok value) taken = taken ≡ Ok value
Takes (Err fault) taken = FailsAt fault taken
