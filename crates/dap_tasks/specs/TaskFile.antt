-- Which bytes are a file of tasks, whatever the order of the checks.
use Rattle.std.specs.Prelude.{◌≡◌, ℕ, ◌+◌, ◌*◌, ◌^◌, ◌<◌, ◌≤◌, pos, List, [], ◌∷◌, ◌++◌, length, slice_range, codes, false, All, Option, Some, None, Ok, Err, IsUtf8}
use Rattle.std.specs.List.{AllZip}
use Rattle.hex.specs.Hex.{decode_sized}
use Rattle.toml.specs.Data.{Data, string, integer, array, table, Items, no_items, item, Members, no_members, member, get_member}
use Rattle.toml.specs.Parse.{parse_document}
use Rattle.dap_bytes.specs.Name.{IsName}
use Rattle.dap_bytes.specs.declared.limits.TheConstants.{GREATEST_MINIMUM, GREATEST_PRECISION, LATEST_TIME, LONGEST_TASK_FILE}
use Rattle.vdaf_api.specs.Kind.{AreBounds}
use Rattle.vdaf_api.specs.declared.kind.Kind.{Kind}
use Rattle.vdaf_api.specs.declared.kind.TheConstants.{MOST_INPUT, MOST_NUMBER_BITS, MOST_NUMBERS}
use Rattle.vdaf_api.specs.declared.kind.Kind.TheVariants.{Count, Sum, Histogram, Vector}
use Rattle.dap_tasks.specs.Fields.{is_other, table_keys}
use Rattle.dap_tasks.specs.File.{Refusal, task_of}
use Rattle.dap_tasks.specs.Task.{PlainTask}
use Rattle.dap_tasks.specs.Tasks.{AreDistinct}
use Rattle.vdaf_api.specs.declared.keys.SealKeys.{SealKeys}

-- the table has this value at the key
abbrev pub Holds : Members → List ℕ → Data → Type 0
Holds members key value = get_member key members ≡ Some value

-- this whole number, which lies from the least to the greatest
pub record HoldsNumber (members : Members) (key : List ℕ) (least greatest number : ℕ) : Type 0 where
  pub holds : Holds members key (integer (pos number))
  pub not_below : least ≤ number
  pub not_above : number ≤ greatest

-- a string of hex digits, of either case, that are these n bytes
pub record HoldsOctets (members : Members) (key : List ℕ) (n : ℕ) (octets : List ℕ) : Type 0 where
  pub text : List ℕ
  pub holds : Holds members key (string text)
  pub decoded : decode_sized text n ≡ Ok octets

-- the keys of a seal: 32 bytes, of which the first 16 are the key of the cipher, and the others that of the tag
pub record HoldsKeys (members : Members) (key : List ℕ) (keys : SealKeys) : Type 0 where
  pub octets : List ℕ
  pub holds : HoldsOctets members key 32 octets
  pub cipher : keys.enc ≡ slice_range octets 0 16
  pub tag : keys.mac ≡ slice_range octets 16 32

-- numbers as the items of an array
abbrev pub integers : List ℕ → Items
integers [] = no_items
integers (number ∷ numbers) = item (integer (pos number)) (integers numbers)

-- the kind's word, and what the kind has beside it
abbrev pub HoldsKind : Members → Kind → Type 0
HoldsKind members Count = Holds members (codes "kind") (string (codes "count"))
HoldsKind members (Sum bits) =
    Holds members (codes "kind") (string (codes "sum")) × HoldsNumber members (codes "bits") 1 64 bits
HoldsKind members (Histogram bounds) =
    Holds members (codes "kind") (string (codes "histogram")) × Holds members (codes "bounds") (array (integers bounds))
    × AreBounds bounds × All (λ bound. bound < 2 ^ 63) bounds
HoldsKind members (Vector len bits) =
    Holds members (codes "kind") (string (codes "vector")) × HoldsNumber members (codes "len") 1 MOST_NUMBERS len
    × HoldsNumber members (codes "bits") 1 MOST_NUMBER_BITS bits × (len * bits ≤ MOST_INPUT)

-- the table says when the task expires, or lacks the key where it never does
abbrev pub HoldsExpiry : Members → Option ℕ → Type 0
HoldsExpiry members None = get_member (codes "expires") members ≡ None
HoldsExpiry members (Some t) = HoldsNumber members (codes "expires") 0 LATEST_TIME t

-- the table has each field of the task, and no other key
pub record IsTaskTable (members : Members) (task : PlainTask) : Type 0 where
  pub name : Holds members (codes "name") (string task.name)
  pub is_name : IsName task.name
  pub kind : HoldsKind members task.kind
  pub min : HoldsNumber members (codes "min") 1 GREATEST_MINIMUM task.min
  pub precision : HoldsNumber members (codes "precision") 1 GREATEST_PRECISION task.precision
  pub expires : HoldsExpiry members task.expires
  pub verify : HoldsOctets members (codes "verify") 16 task.verify
  pub leader : HoldsKeys members (codes "leader") task.leader
  pub helper : HoldsKeys members (codes "helper") task.helper
  pub no_others : All (λ key. is_other task.kind key ≡ false) (table_keys members)

-- tables as the items of an array
abbrev pub table_items : List Members → Items
table_items [] = no_items
table_items (members ∷ tables) = item (table members) (table_items tables)

-- The bytes are no more than a file may have, in UTF-8, and TOML with the one key `task`, whose value is the array of
-- these tables.
pub record HasTables (bytes : List ℕ) (tables : List Members) : Type 0 where
  pub short : length bytes ≤ LONGEST_TASK_FILE
  pub utf8 : IsUtf8 bytes
  pub parsed : parse_document bytes ≡ Some (member (codes "task") (array (table_items tables)) no_members)

-- the file's tables are these tasks, one by one, and no two of them have the same name
pub record IsTaskFile (bytes : List ℕ) (tasks : List PlainTask) : Type 0 where
  pub tables : List Members
  pub file : HasTables bytes tables
  pub each : AllZip IsTaskTable tables tasks
  pub distinct : AreDistinct tasks

-- no tables are those of the bytes
pub record RefusesFile (bytes : List ℕ) (refusal : Refusal) : Type 0 where
  pub none : ¬ ((tables : List Members) × HasTables bytes tables)
  pub named : refusal ≡ record { task = 0; field = codes "file" }

-- The first tables are these tasks, and the next one is none behind them: its number, counted from 1, is named, and the
-- first of its fields that is refused.
pub record RefusesTask (bytes : List ℕ) (refusal : Refusal) : Type 0 where
  pub read : List Members
  pub here : Members
  pub left : List Members
  pub file : HasTables bytes (read ++ here ∷ left)
  pub tasks : List PlainTask
  pub each : AllZip IsTaskTable read tasks
  pub distinct : AreDistinct tasks
  pub number : refusal.task ≡ length tasks + 1
  pub first_field : task_of tasks here ≡ Err refusal.field
