-- What the values of a task's keys in a task file say.
use Rattle.std.specs.Prelude.{ℕ, ◌*◌, ℤ, pos, negsuc, List, [], ◌∷◌, ◌++◌, slice_range, codes, Bool, ◌&&◌, not, nat_le, if◌then◌else◌, Option, Some, None, Result, Ok, Err, ok_or, filter}
use Rattle.std.specs.List.{list_any}
use Rattle.std.specs.Option.{option_and_then, option_map_or}
use Rattle.std.specs.Ordering.{nat_cmp, is_lt}
use Rattle.std.specs.Cmp.Lexicographic.{slice_cmp}
use Rattle.std.specs.Result.{result_ok}
use Rattle.std.specs.Str.{bytes_eq}
use Rattle.hex.specs.Hex.{decode_sized}
use Rattle.toml.specs.Data.{Data, Items, no_items, item, Members, no_members, member, as_str, as_integer, as_array, get_member}
use Rattle.dap_bytes.specs.Name.{name_of}
use Rattle.vdaf_api.specs.Kind.{is_kind}
use Rattle.vdaf_api.specs.declared.kind.Kind.{Kind}
use Rattle.vdaf_api.specs.declared.kind.TheConstants.{MOST_INPUT, MOST_NUMBER_BITS}
use Rattle.vdaf_api.specs.declared.kind.Kind.TheVariants.{Count, Sum, Histogram, Vector}
use Rattle.dap_tasks.specs.Task.{PlainTask, has_name}
use Rattle.dap_tasks.specs.declared.fields.TheConstants.{MAX_BOUND}
use Rattle.vdaf_api.specs.declared.keys.SealKeys.{SealKeys}

-- what f makes of a value that is there
infixl 10 ◌>>=◌
abbrev ◌>>=◌ : {A B : Type 0} → Option A → (A → Option B) → Option B
o >>= f = option_and_then f o

-- the whole number, if it lies from the least to the greatest
abbrev pub ranged : ℕ → ℕ → ℤ → Option ℕ
ranged least greatest (pos n) = if nat_le least n && nat_le n greatest then Some n else None
ranged least greatest (negsuc n) = None

-- a whole number from the least to the greatest
abbrev pub number_of : ℕ → ℕ → Data → Option ℕ
number_of least greatest value = do
  number ← as_integer value
  ranged least greatest number

-- whole numbers from 0 to the greatest that a file can write, which has 64 bits with its sign
abbrev pub numbers_of : Items → Option (List ℕ)
numbers_of no_items = Some []
numbers_of (item value items) = do
  number ← number_of 0 MAX_BOUND value
  numbers ← numbers_of items
  Some (number ∷ numbers)

-- the bounds, if they are those of a histogram
abbrev pub ascending : List ℕ → Option (List ℕ)
ascending bounds = if is_kind (Histogram bounds) then Some bounds else None

-- an array of bounds: 1 to 1,023 numbers, strictly ascending
abbrev pub bounds_of : Data → Option (List ℕ)
bounds_of value = do
  items ← as_array value
  bounds ← numbers_of items
  ascending bounds

-- how many bits each of len numbers of a vector has: 1 to 32, and all together no more than a vector may have
abbrev pub bits_of : ℕ → Data → Option ℕ
bits_of len value = do
  bits ← number_of 1 MOST_NUMBER_BITS value
  if nat_le (len * bits) MOST_INPUT then Some bits else None

-- a string of twice as many hex digits, of either case, as there are bytes
abbrev pub octets_of : ℕ → Data → Option (List ℕ)
octets_of n value = do
  text ← as_str value
  result_ok (decode_sized text n)

-- a string of 64 hex digits: the key of the cipher, then the key of the tag
abbrev pub keys_of : Data → Option SealKeys
keys_of value = do
  octets ← octets_of 32 value
  Some (record { enc = slice_range octets 0 16; mac = slice_range octets 16 32 })

-- the name, if none of the tasks has it
abbrev pub unless_taken : List PlainTask → List ℕ → Option (List ℕ)
unless_taken before name = if list_any (has_name name) before then None else Some name

-- a string that is a name, which none of these tasks has
abbrev pub new_name_of : List PlainTask → Data → Option (List ℕ)
new_name_of before value = do
  text ← as_str value
  name ← name_of text
  unless_taken before name

-- The value of a key, where the table has the key with a value of this form. The key is refused else.
abbrev pub field : {A : Type 0} → List ℕ → (Data → Option A) → Members → Result A (List ℕ)
field key reads table = ok_or (option_and_then reads (get_member key table)) key

-- The value of a key that a table may lack. The key is refused where it has a value of another form.
abbrev pub optional_field : {A : Type 0} → List ℕ → (Data → Option A) → Members → Result (Option A) (List ℕ)
optional_field key reads table =
    option_map_or (λ value. option_map_or (λ x. Ok (Some x)) (reads value) (Err key)) (get_member key table) (Ok None)

-- the keys of a table
abbrev pub table_keys : Members → List (List ℕ)
table_keys no_members = []
table_keys (member key value members) = key ∷ table_keys members

-- the keys that the tasks of a kind have, beside those of every task
abbrev pub keys_of_kind : Kind → List (List ℕ)
keys_of_kind Count = []
keys_of_kind (Sum bits) = codes "bits" ∷ []
keys_of_kind (Histogram bounds) = codes "bounds" ∷ []
keys_of_kind (Vector len bits) = codes "len" ∷ codes "bits" ∷ []

-- the keys that every task has
abbrev pub common_keys : List (List ℕ)
common_keys =
    codes "name" ∷ codes "kind" ∷ codes "min" ∷ codes "precision" ∷ codes "expires"
    ∷ codes "verify" ∷ codes "leader" ∷ codes "helper" ∷ []

-- no key of a task of the kind
abbrev pub is_other : Kind → List ℕ → Bool
is_other kind key = not (list_any (bytes_eq key) (keys_of_kind kind ++ common_keys))

-- the text that comes first in the order of bytes
abbrev pub earlier : List ℕ → Option (List ℕ) → List ℕ
earlier text None = text
earlier text (Some other) = if is_lt (slice_cmp nat_cmp other text) then other else text

-- the first of the texts in the order of their bytes
abbrev pub first_of : List (List ℕ) → Option (List ℕ)
first_of [] = None
first_of (text ∷ texts) = Some (earlier text (first_of texts))

-- refuses what is there
abbrev pub refused : Option (List ℕ) → Result (Unit {0}) (List ℕ)
refused None = Ok tt
refused (Some key) = Err key

-- the first key of a table, in the order of their bytes, that is no key of a task of the kind
abbrev pub first_other : Kind → Members → Option (List ℕ)
first_other kind table = first_of (filter (is_other kind) (table_keys table))

-- The table has no other keys than a task of the kind. The first of them is refused else.
abbrev pub no_others : Kind → Members → Result (Unit {0}) (List ℕ)
no_others kind table = refused (first_other kind table)
