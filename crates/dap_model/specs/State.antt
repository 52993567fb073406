-- The plain state: what is known at a moment of the run.
use Rattle.std.specs.Prelude.{ℕ, ◌+◌, List, [], ◌++◌, ◌∷◌, filter, map, Bool, ◌&&◌, nat_eq, nat_le, is_none, if◌then◌else◌, Option, Some, None}
use Rattle.std.specs.List.{find, flat_map, list_any, sum_by}
use Rattle.std.specs.Option.{option_map_or, option_to_list}
use Rattle.std.specs.Str.{bytes_eq}
use Rattle.dap_bytes.specs.Spans.{buckets_of, holds_bucket, shares_bucket}
use Rattle.dap_bytes.specs.declared.span.Span.{Span}
use Rattle.vdaf_api.specs.Functions.{Functions}
use Rattle.vdaf_api.specs.declared.kind.Kind.{Kind}
use Rattle.dap_batch.specs.Group.{batch_start}
use Rattle.dap_messages.specs.declared.report.Report.{Report}
use Rattle.dap_seal.specs.Reports.{content_numbers_of}
use Rattle.dap_tasks.specs.Task.{PlainTask, has_name}

-- a collected batch: a task's name, and the buckets
pub record Batch : Type 0 where
  pub task : List ℕ
  pub span : Span

-- The known tasks, the moment where one is known, the accepted reports in order, and the collected batches. A report
-- stands for its bytes, which are its one spelling.
pub record State : Type 0 where
  pub tasks : List PlainTask
  pub moment : Option ℕ
  pub accepted : List Report
  pub collected : List Batch

-- the tasks are known, and nothing else is
abbrev pub opening : List PlainTask → State
opening tasks = record { tasks = tasks; moment = None; accepted = []; collected = [] }

-- these tasks are known too, behind the others
abbrev pub with_tasks : State → List PlainTask → State
with_tasks s tasks = record s { tasks = s.tasks ++ tasks }

-- the names of tasks
abbrev pub names_of : List PlainTask → List (List ℕ)
names_of tasks = map (λ task. task.name) tasks

-- the batch of this task that starts there and has so many buckets
abbrev pub is_batch : List ℕ → Span → Batch → Bool
is_batch name span b = bytes_eq b.task name && (nat_eq b.span.start span.start && nat_eq b.span.buckets span.buckets)

-- a batch of this task that holds the bucket, by the task's precision
abbrev pub has_bucket : List ℕ → ℕ → ℕ → Batch → Bool
has_bucket name precision bucket b = bytes_eq b.task name && holds_bucket b.span precision bucket

-- a batch of this task that shares a bucket with this one
abbrev pub shares_with : PlainTask → Span → Batch → Bool
shares_with task span b = bytes_eq b.task task.name && shares_bucket b.span span task.precision

-- the task of a name among these
abbrev pub task_named : List PlainTask → List ℕ → Option PlainTask
task_named tasks name = find (has_name name) tasks

-- this batch is collected too, behind the others
abbrev pub with_collected : State → List ℕ → Span → State
with_collected s name span = record s { collected = s.collected ++ record { task = name; span = span } ∷ [] }

-- the batch is among the collected ones
abbrev pub is_collected : List Batch → List ℕ → Span → Bool
is_collected collected name span = list_any (is_batch name span) collected

-- the bucket of this task lies in a collected batch
abbrev pub is_closed : List Batch → List ℕ → ℕ → ℕ → Bool
is_closed collected name precision bucket = list_any (has_bucket name precision bucket) collected

-- the one that starts first, and of two that start together the first
abbrev pub earlier : Span → Span → Span
earlier a b = if nat_le a.start b.start then a else b

-- of these the one that starts first
abbrev pub earliest : List Span → Option Span
earliest [] = None
earliest (a ∷ more) = Some (option_map_or (earlier a) (earliest more) a)

-- the collected batches of the task that share a bucket with this one
abbrev pub sharing : PlainTask → Span → List Batch → List Span
sharing task span collected = map (λ b. b.span) (filter (shares_with task span) collected)

-- ---- a bucket: a time of the task, rounded down to its precision

-- a name and a time of this task, in its bucket that starts there
abbrev pub lies_in : PlainTask → ℕ → List ℕ → ℕ → Bool
lies_in task start name time = bytes_eq name task.name && nat_eq (batch_start time task.precision) start

-- a report of this task, in its bucket that starts there
abbrev pub in_bucket : PlainTask → ℕ → Report → Bool
in_bucket task start r = lies_in task start r.name r.time

-- the content of a report of the task, which is a vector of numbers, or none where its verdict is failed
abbrev pub content_of : (Kind → Functions) → PlainTask → Report → Option (List ℕ)
content_of f task r = content_numbers_of (f task.kind) task r

-- the contents of a bucket's reports, in order
abbrev pub contents_in : (Kind → Functions) → PlainTask → ℕ → List Report → List (List ℕ)
contents_in f task start [] = []
contents_in f task start (r ∷ more) =
    (if in_bucket task start r then option_to_list (content_of f task r) else []) ++ contents_in f task start more

-- how many of a bucket's reports have no content
abbrev pub rejected_in : (Kind → Functions) → PlainTask → ℕ → List Report → ℕ
rejected_in f task start [] = 0
rejected_in f task start (r ∷ more) =
    (if in_bucket task start r && is_none (content_of f task r) then 1 else 0) + rejected_in f task start more

-- ---- a batch: one bucket after the other

-- the contents of a batch's reports: those of its buckets, one after the other
abbrev pub batch_contents : (Kind → Functions) → PlainTask → Span → List Report → List (List ℕ)
batch_contents f task span reports =
    flat_map (λ start. contents_in f task start reports) (buckets_of span task.precision)

-- how many of a batch's reports have no content
abbrev pub batch_rejected : (Kind → Functions) → PlainTask → Span → List Report → ℕ
batch_rejected f task span reports =
    sum_by (λ start. rejected_in f task start reports) (buckets_of span task.precision)
