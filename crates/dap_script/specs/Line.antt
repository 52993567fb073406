-- A line as words between single spaces.
use Rattle.std.specs.Prelude.{ℕ, ◌-◌, List, [], ◌∷◌, length, take, drop, codes, Bool, true, ◌&&◌, nat_eq, nat_le, if◌then◌else◌, Option, Some, None}
use Rattle.std.specs.List.{list_all, slice_split}
use Rattle.std.specs.Option.{option_map_or}
use Rattle.std.specs.Str.{bytes_eq}
use Rattle.dap_bytes.specs.Name.{name_of}
use Rattle.dap_bytes.specs.declared.limits.TheConstants.{GREATEST_MINIMUM, GREATEST_PRECISION, LATEST_TIME}
use Rattle.vdaf_api.specs.declared.kind.Kind.{Kind}
use Rattle.dap_script.specs.Fields.{◌>>=◌, bounded_of, buckets_written, kind_of, measurement_of, node_of, octets_of, report_of}
use Rattle.dap_script.specs.Words.{word, is_line_char, is_number_sign, is_space}
use Rattle.dap_script.specs.declared.line.Line.{Line}
use Rattle.dap_script.specs.declared.line.Line.TheVariants.{Blank, Task, Now, Measure, Upload, Collect, Restart}

-- the task of a kind whose other words are these, which expires so
abbrev pub task_with : List ℕ → Kind → List ℕ → List ℕ → Option ℕ → Option Line
task_with name kind min precision expires = do
  name ← name_of name
  min ← bounded_of 1 GREATEST_MINIMUM min
  precision ← bounded_of 1 GREATEST_PRECISION precision
  Some (Task name kind min precision expires)

-- the words of a task line's kind: all fields but the first and the last two
abbrev pub kind_fields : List (List ℕ) → List (List ℕ)
kind_fields fields = take (length fields - 3) (drop 1 fields)

-- `NAME KIND.. MIN PRECISION`, of a task that expires so
abbrev pub task_until : Option ℕ → List (List ℕ) → Option Line
task_until expires fields = if nat_le 3 (length fields) then (do
  kind ← kind_of (kind_fields fields)
  task_with (word fields 0) kind (word fields (length fields - 2)) (word fields (length fields - 1)) expires) else None

-- the last word but one is `expires`
abbrev pub has_expiry : List (List ℕ) → Bool
has_expiry fields = nat_le 2 (length fields) && bytes_eq (word fields (length fields - 2)) (codes "expires")

-- the fields before `expires T`, and T, where the fields end so
abbrev pub expiry_split : List (List ℕ) → Option (List (List ℕ) × List ℕ)
expiry_split fields =
    if has_expiry fields then Some (take (length fields - 2) fields, word fields (length fields - 1)) else None

-- a task that expires at the time that the word writes, if it does
abbrev pub expiring : List (List ℕ) × List ℕ → Option Line
expiring parts = do
  t ← bounded_of 0 LATEST_TIME parts.1
  task_until (Some t) parts.0

-- `task NAME KIND.. MIN PRECISION [expires T]`, after the keyword
abbrev pub task_of : List (List ℕ) → Option Line
task_of fields = option_map_or expiring (expiry_split fields) (task_until None fields)

-- `now T`, after the keyword
abbrev pub now_of : List (List ℕ) → Option Line
now_of fields = if nat_eq (length fields) 1 then (do
  t ← bounded_of 0 LATEST_TIME (word fields 0)
  Some (Now t)) else None

-- the measurement of a value whose other words are these
abbrev pub measure_with : List ℕ → List ℕ → List ℕ → List ℕ → List ℕ → Option Line
measure_with name id time value seed = do
  name ← name_of name
  id ← octets_of id
  time ← bounded_of 0 LATEST_TIME time
  seed ← octets_of seed
  Some (Measure name id time value seed)

-- `measure NAME ID TIME VALUE SEED`, after the keyword
abbrev pub measure_of : List (List ℕ) → Option Line
measure_of fields = if nat_eq (length fields) 5 then (do
  value ← measurement_of (word fields 3)
  measure_with (word fields 0) (word fields 1) (word fields 2) value (word fields 4)) else None

-- `upload BASE64`, after the keyword
abbrev pub upload_of : List (List ℕ) → Option Line
upload_of fields = if nat_eq (length fields) 1 then (do
  report ← report_of (word fields 0)
  Some (Upload report)) else None

-- `collect NAME START [BUCKETS]`, after the keyword
abbrev pub collect_of : List (List ℕ) → Option Line
collect_of fields = if nat_le 2 (length fields) then (do
  name ← name_of (word fields 0)
  start ← bounded_of 0 LATEST_TIME (word fields 1)
  buckets ← buckets_written (drop 2 fields)
  Some (Collect name (record { start = start; buckets = buckets }))) else None

-- `restart NODE`, after the keyword
abbrev pub restart_of : List (List ℕ) → Option Line
restart_of fields = if nat_eq (length fields) 1 then (do
  node ← node_of (word fields 0)
  Some (Restart node)) else None

-- the line of a keyword with the words behind it
abbrev pub fields_of : List ℕ → List (List ℕ) → Option Line
fields_of keyword fields =
    if bytes_eq keyword (codes "task") then task_of fields
    else (if bytes_eq keyword (codes "now") then now_of fields
    else (if bytes_eq keyword (codes "measure") then measure_of fields
    else (if bytes_eq keyword (codes "upload") then upload_of fields
    else (if bytes_eq keyword (codes "collect") then collect_of fields
    else (if bytes_eq keyword (codes "restart") then restart_of fields
    else None)))))

-- a keyword and what it wants
abbrev pub line_of_words : List (List ℕ) → Option Line
line_of_words [] = None
line_of_words (keyword ∷ fields) = fields_of keyword fields

-- empty, or a comment
abbrev pub is_blank : List ℕ → Bool
is_blank [] = true
is_blank (c ∷ cs) = is_number_sign c

-- nothing, a comment, or words between single spaces
abbrev pub line_of : List ℕ → Option Line
line_of text =
    if list_all is_line_char text then (if is_blank text then Some Blank else line_of_words (slice_split is_space text))
    else None
