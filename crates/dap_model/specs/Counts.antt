-- What a collection prints, in the measurements of the lines before it.
use Rattle.std.specs.Prelude.{◌≡◌, ℕ, ◌+◌, List, [], ◌∷◌, ◌++◌, length, count_by, Bool, true, false, ◌&&◌, nat_le, if◌then◌else◌, Option, Some, None}
use Rattle.std.specs.List.{flat_map, list_any, sum_by}
use Rattle.std.specs.Option.{option_to_list}
use Rattle.std.specs.Str.{bytes_eq}
use Rattle.dap_bytes.specs.Spans.{buckets_of}
use Rattle.dap_bytes.specs.declared.span.Span.{Span}
use Rattle.vdaf_api.specs.Functions.{Functions, Parts}
use Rattle.vdaf_api.specs.Kind.{IsKind}
use Rattle.vdaf_api.specs.Totals.{total_numbers}
use Rattle.vdaf_api.specs.declared.kind.Kind.{Kind}
use Rattle.dap_batch.specs.Group.{batch_start}
use Rattle.dap_tasks.specs.Task.{PlainTask}
use Rattle.dap_script.specs.declared.line.Line.{Line}
use Rattle.dap_script.specs.declared.line.Line.TheVariants as line
use Rattle.dap_model.specs.Moments.{IsTimely, IsUnexpired, times_since}
use Rattle.dap_model.specs.Run.{state_after}
use Rattle.dap_messages.specs.Reports.{has_key}
use Rattle.dap_model.specs.State.{Batch, State, batch_rejected, contents_in, has_bucket, is_closed, lies_in, task_named}
use Rattle.dap_model.specs.Step.{reports_with_content, step}
use Rattle.dap_model.specs.declared.printed.Printed.{Printed}
use Rattle.dap_model.specs.declared.printed.Printed.TheVariants.{Collected, Small}

-- a measurement of the task whose time falls in its bucket that starts there
abbrev pub falls_in : PlainTask → ℕ → Line → Bool
falls_in task start (line.Measure name id time value seed) = lies_in task start name time
falls_in task start line.Blank = false
falls_in task start (line.Task name kind min precision expires) = false
falls_in task start (line.Now t) = false
falls_in task start (line.Upload report) = false
falls_in task start (line.Collect name span) = false
falls_in task start (line.Restart node) = false

-- a measurement under this name with this identifier
abbrev pub measures : List ℕ → List ℕ → Line → Bool
measures name id (line.Measure task own time value seed) = bytes_eq task name && bytes_eq own id
measures name id line.Blank = false
measures name id (line.Task task kind min precision expires) = false
measures name id (line.Now t) = false
measures name id (line.Upload report) = false
measures name id (line.Collect task span) = false
measures name id (line.Restart node) = false

-- a collection of a batch with this property
abbrev pub collects : (Batch → Bool) → Line → Bool
collects has_it (line.Collect name span) = has_it (record { task = name; span = span })
collects has_it line.Blank = false
collects has_it (line.Task name kind min precision expires) = false
collects has_it (line.Now t) = false
collects has_it (line.Measure name id time value seed) = false
collects has_it (line.Upload report) = false
collects has_it (line.Restart node) = false

-- a collection
abbrev pub is_collection : Line → Bool
is_collection (line.Collect task span) = true
is_collection line.Blank = false
is_collection (line.Task task kind min precision expires) = false
is_collection (line.Now t) = false
is_collection (line.Measure task id time value seed) = false
is_collection (line.Upload report) = false
is_collection (line.Restart node) = false

-- the vector that a line's value is under a function, where the line measures one
abbrev pub measured : Functions → Line → Option (List ℕ)
measured g (line.Measure name id time value seed) = g.encoding value
measured g line.Blank = None
measured g (line.Task name kind min precision expires) = None
measured g (line.Now t) = None
measured g (line.Upload report) = None
measured g (line.Collect name span) = None
measured g (line.Restart node) = None

-- the vectors of the measurements that fall in the task's bucket
abbrev pub vectors_in : Functions → PlainTask → ℕ → List Line → List (List ℕ)
vectors_in g task start [] = []
vectors_in g task start (l ∷ more) =
    (if falls_in task start l then option_to_list (measured g l) else []) ++ vectors_in g task start more

-- the contents of the task's bucket behind these lines: those of the reports that were accepted before them, and then
-- the vectors of the measurements that fall in it
abbrev pub bucket_behind : (Kind → Functions) → PlainTask → State → List Line → ℕ → List (List ℕ)
bucket_behind f task opened lines start =
    contents_in f task start opened.accepted ++ vectors_in (f task.kind) task start lines

-- the contents of the task's batch behind these lines: those of its buckets, one after the other
abbrev pub contents_behind : (Kind → Functions) → PlainTask → Span → State → List Line → List (List ℕ)
contents_behind f task span opened lines = flat_map (bucket_behind f task opened lines) (buckets_of span task.precision)

-- how many measurements fall in the task's batch
abbrev pub measured_in : PlainTask → Span → List Line → ℕ
measured_in task span lines = sum_by (λ start. count_by (falls_in task start) lines) (buckets_of span task.precision)

-- A measurement of a known task after these lines, which begin in this state: its shares are fair, it isn't early, its
-- task hasn't expired, its identifier is that of no accepted report and none of the lines measures under it, and its
-- bucket lies in no collected batch and none of the lines collects one that holds it.
pub record IsTaken (f : Kind → Functions) (opened : State) (done : List Line)
    (name id : List ℕ) (time : ℕ) (value seed : List ℕ) : Type 0 where
  pub task : PlainTask
  pub known : task_named opened.tasks name ≡ Some task
  pub kind : IsKind task.kind
  pub key_bytes : length task.verify ≡ 16
  pub id_bytes : length id ≡ 16
  pub seed_bytes : length seed ≡ 16
  pub shares : Parts
  pub shared : (f task.kind).shard id value seed ≡ Some shares
  pub fair : (f task.kind).is_fair task.verify id ≡ true
  pub timely : IsTimely (times_since opened.moment done) time
  pub unexpired : IsUnexpired (times_since opened.moment done) task.expires
  pub unknown : list_any (has_key name id) opened.accepted ≡ false
  pub new : list_any (measures name id) done ≡ false
  pub open_ : is_closed opened.collected name task.precision (batch_start time task.precision) ≡ false
  pub uncollected : list_any (collects (has_bucket name task.precision (batch_start time task.precision))) done ≡ false

-- a line after these that accepts what it measures, if it measures, and that uploads nothing
abbrev pub IsTakenLine : (Kind → Functions) → State → List Line → Line → Type 0
IsTakenLine f opened done (line.Measure name id time value seed) = IsTaken f opened done name id time value seed
IsTakenLine f opened done (line.Now t) = Unit {0}
IsTakenLine f opened done line.Blank = Unit {0}
IsTakenLine f opened done (line.Task name kind min precision expires) = Unit {0}
IsTakenLine f opened done (line.Upload report) = ⊥
IsTakenLine f opened done (line.Collect name span) = Unit {0}
IsTakenLine f opened done (line.Restart node) = Unit {0}

-- such lines, one after another, after these
abbrev pub AreTaken : (Kind → Functions) → State → List Line → List Line → Type 0
AreTaken f opened done [] = Unit {0}
AreTaken f opened done (l ∷ more) = IsTakenLine f opened done l × AreTaken f opened (done ++ l ∷ []) more

-- Behind these lines the batch has as many reports more as measurements fall in it, and none more that is rejected; and
-- its answer is that of the sum of its contents before and of their vectors.
abbrev pub counted_line : (Kind → Functions) → PlainTask → Span → State → List Line → Printed
counted_line f task span opened lines =
    let reports = reports_with_content f opened task span + measured_in task span lines in
    let rejected = batch_rejected f task span opened.accepted in
    let total = total_numbers (f task.kind).space (contents_behind f task span opened lines) in
    let answer = (f task.kind).answer total in
    if nat_le task.min reports
    then (Collected task.name span (record { reports = reports; rejected = rejected; answer = answer }))
    else (Small task.name span reports)

-- Line `number`, which collects the task's batch behind these lines, prints what is counted in the state in which they
-- begin and in them.
abbrev pub PrintsCounted : (Kind → Functions) → State → PlainTask → Span → ℕ → List Line → Type 0
PrintsCounted f opened task span number lines =
    let before = state_after f opened 1 lines in
    (step f before number (line.Collect task.name span)).1 ≡ counted_line f task span opened lines ∷ []
