-- The task file: TOML with an array of tables `task`, each of which is a task.
use Rattle.std.specs.Prelude.{ℕ, ◌+◌, List, [], ◌∷◌, ◌++◌, length, codes, ◌&&◌, nat_eq, nat_le, if◌then◌else◌, Option, Some, None, Result, Ok, Err, ok_or}
use Rattle.std.specs.Option.{option_and_then}
use Rattle.std.specs.Str.{bytes_eq, is_utf8}
use Rattle.toml.specs.Data.{Items, no_items, item, Members, as_str, as_array, as_table, get_member}
use Rattle.toml.specs.Parse.{parse_document}
use Rattle.dap_bytes.specs.declared.limits.TheConstants.{GREATEST_MINIMUM, GREATEST_PRECISION, LATEST_TIME, LONGEST_TASK_FILE}
use Rattle.vdaf_api.specs.declared.kind.Kind.{Kind}
use Rattle.vdaf_api.specs.declared.kind.TheConstants.{MOST_NUMBERS}
use Rattle.vdaf_api.specs.declared.kind.Kind.TheVariants.{Count, Sum, Histogram, Vector}
use Rattle.dap_tasks.specs.Task.{PlainTask}
use Rattle.dap_tasks.specs.Fields.{field, optional_field, number_of, bits_of, bounds_of, octets_of, keys_of, new_name_of, no_others, table_keys}

-- why a file is no list of tasks: the task, counted from 1, or 0 for the file as a whole, and its field
pub record Refusal : Type 0 where
  pub task : ℕ
  pub field : List ℕ

-- what f makes of a value that is there, and the refusal where there is none
infixl 10 ◌>>=◌
abbrev pub ◌>>=◌ : {A B E : Type 0} → Result A E → (A → Result B E) → Result B E
Ok x >>= f = f x
Err e >>= f = Err e

-- `sum`, with its `bits`
abbrev pub sum_of : Members → Result Kind (List ℕ)
sum_of table = do
  bits ← field (codes "bits") (number_of 1 64) table
  Ok (Sum bits)

-- `histogram`, with its `bounds`
abbrev pub histogram_of : Members → Result Kind (List ℕ)
histogram_of table = do
  bounds ← field (codes "bounds") bounds_of table
  Ok (Histogram bounds)

-- `vector`, with its `len` and its `bits`
abbrev pub vector_of : Members → Result Kind (List ℕ)
vector_of table = do
  len ← field (codes "len") (number_of 1 MOST_NUMBERS) table
  bits ← field (codes "bits") (bits_of len) table
  Ok (Vector len bits)

-- the kind that a word names, with what the table has for it
abbrev pub kind_named : List ℕ → Members → Result Kind (List ℕ)
kind_named word table =
    if bytes_eq word (codes "count") then Ok Count
    else (if bytes_eq word (codes "sum") then sum_of table
    else (if bytes_eq word (codes "histogram") then histogram_of table
    else (if bytes_eq word (codes "vector") then vector_of table
    else Err (codes "kind"))))

-- the kind of a task
abbrev pub kind_of : Members → Result Kind (List ℕ)
kind_of table = do
  word ← field (codes "kind") as_str table
  kind_named word table

-- the task that a table is, behind these tasks, or the first field that is refused
abbrev pub task_of : List PlainTask → Members → Result PlainTask (List ℕ)
task_of before table = do
  name ← field (codes "name") (new_name_of before) table
  kind ← kind_of table
  min ← field (codes "min") (number_of 1 GREATEST_MINIMUM) table
  precision ← field (codes "precision") (number_of 1 GREATEST_PRECISION) table
  expires ← optional_field (codes "expires") (number_of 0 LATEST_TIME) table
  verify ← field (codes "verify") (octets_of 16) table
  leader ← field (codes "leader") keys_of table
  helper ← field (codes "helper") keys_of table
  others ← no_others kind table
  Ok (record {
    name = name;
    kind = kind;
    min = min;
    precision = precision;
    expires = expires;
    verify = verify;
    leader = leader;
    helper = helper;
  })

-- the value, where a field that is refused is one of the task of this number
abbrev pub of_task : {A : Type 0} → ℕ → Result A (List ℕ) → Result A Refusal
of_task number (Ok value) = Ok value
of_task number (Err name) = Err (record { task = number; field = name })

-- these tasks and those that the tables are, or the refusal of the first table that is none behind those before it
abbrev pub tasks_after : List PlainTask → List Members → Result (List PlainTask) Refusal
tasks_after before [] = Ok before
tasks_after before (table ∷ tables) = do
  task ← of_task (length before + 1) (task_of before table)
  tasks_after (before ++ task ∷ []) tables

-- the tables of an array that has nothing else
abbrev pub tables_in : Items → Option (List Members)
tables_in no_items = Some []
tables_in (item value items) =
    option_and_then (λ table. option_and_then (λ tables. Some (table ∷ tables)) (tables_in items)) (as_table value)

-- the tables of a document that has the key `task` alone, with an array of tables
abbrev pub tables_under_task : Members → Option (List Members)
tables_under_task document =
    if nat_eq (length (table_keys document)) 1
    then option_and_then tables_in (option_and_then as_array (get_member (codes "task") document))
    else None

-- the document that the bytes are, if they are no more than a file may have, UTF-8 and TOML
abbrev pub document_of : List ℕ → Option Members
document_of bytes = if nat_le (length bytes) LONGEST_TASK_FILE && is_utf8 bytes then parse_document bytes else None

-- the tables of a file
abbrev pub tables_of : List ℕ → Option (List Members)
tables_of bytes = option_and_then tables_under_task (document_of bytes)

-- the tasks of a file, in its order, or why it is refused
abbrev pub tasks_of : List ℕ → Result (List PlainTask) Refusal
tasks_of bytes = do
  tables ← ok_or (tables_of bytes) (record { task = 0; field = codes "file" })
  tasks_after [] tables
