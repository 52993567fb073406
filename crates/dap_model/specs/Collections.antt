-- What a collection comes to: its causes, what it prints, and what it changes.
use Rattle.std.specs.Prelude.{◌≡◌, ◌+◌, ◌<◌, ◌≤◌, ℕ, List, [], ◌∷◌, length, filter, filter_map, IsPermutation, Bool, true, false, ◌&&◌, Some, None}
use Rattle.std.specs.List.{Contains, flat_map}
use Rattle.dap_bytes.specs.Spans.{buckets_of, holds_bucket, passes_start, shares_bucket}
use Rattle.dap_bytes.specs.declared.span.Span.{Span}
use Rattle.std.specs.Str.{bytes_eq}
use Rattle.dap_batch.specs.Group.{batch_start}
use Rattle.vdaf_api.specs.Functions.{Functions}
use Rattle.vdaf_api.specs.Totals.{total_numbers}
use Rattle.vdaf_api.specs.declared.answer.Collected.{Collected as Counts}
use Rattle.vdaf_api.specs.declared.kind.Kind.{Kind}
use Rattle.dap_messages.specs.declared.report.Report.{Report}
use Rattle.dap_seal.specs.Reports.{content_numbers_of}
use Rattle.dap_tasks.specs.Task.{PlainTask}
use Rattle.dap_tasks.specs.declared.cause.Cause.TheVariants as cause
use Rattle.dap_script.specs.declared.line.Line.{Line}
use Rattle.dap_script.specs.declared.line.Line.TheVariants as line
use Rattle.dap_model.specs.Run.{state_after}
use Rattle.dap_model.specs.State.{State, in_bucket, task_named, with_collected}
use Rattle.dap_model.specs.Step.{Outcome, refused, step}
use Rattle.dap_model.specs.declared.printed.Printed.{Printed}
use Rattle.dap_model.specs.declared.printed.Printed.TheVariants.{Collected, Small, Overlap}

-- the accepted reports of the task whose times lie in its bucket that starts there
abbrev pub bucket_reports : State → PlainTask → ℕ → List Report
bucket_reports s t start = filter (in_bucket t start) s.accepted

-- the accepted reports of the task's batch: those of its buckets, one after the other
abbrev pub batch_reports : State → PlainTask → Span → List Report
batch_reports s t span = flat_map (bucket_reports s t) (buckets_of span t.precision)

-- a report of this task whose bucket the batch holds
abbrev pub in_batch : PlainTask → Span → Report → Bool
in_batch t span r = bytes_eq r.name t.name && holds_bucket span t.precision (batch_start r.time t.precision)

-- the batch's reports are the accepted ones that lie in it, each once
abbrev pub HoldsReportsOnce : State → PlainTask → Span → Type 0
HoldsReportsOnce s t span = IsPermutation (filter (in_batch t span) s.accepted) (batch_reports s t span)

-- the vectors of those of the task's reports that have a content
abbrev pub vectors_of : (Kind → Functions) → PlainTask → List Report → List (List ℕ)
vectors_of f t reports = filter_map (content_numbers_of (f t.kind) t) reports

-- the batch of this name was collected
abbrev pub WasCollected : State → List ℕ → Span → Type 0
WasCollected s name span = Contains s.collected (record { task = name; span = span })

-- The batch of this span was collected, under this name, and shares a bucket with the other by this precision.
pub record Overlaps (s : State) (name : List ℕ) (precision : ℕ) (span other : Span) : Type 0 where
  pub collected : WasCollected s name other
  pub shared : shares_bucket other span precision ≡ true

-- Of the collected batches that share a bucket with this one, the other is one that starts first.
pub record IsFirstOverlap (s : State) (name : List ℕ) (precision : ℕ) (span other : Span) : Type 0 where
  pub overlaps : Overlaps s name precision span other
  pub first : (another : Span) → Overlaps s name precision span another → other.start ≤ another.start

-- The batch wasn't collected, and no collected batch shares a bucket with it.
pub record IsFree (s : State) (name : List ℕ) (precision : ℕ) (span : Span) : Type 0 where
  pub open_ : WasCollected s name span → ⊥
  pub apart : (other : Span) → Overlaps s name precision span other → ⊥

-- Each of a batch's reports is counted once: as a report where it has a content, else as rejected. The answer is that
-- of the sum of the contents.
pub record AreCounted (f : Kind → Functions) (t : PlainTask) (reports : List Report) (what : Counts) : Type 0 where
  pub with_content : what.reports ≡ length (vectors_of f t reports)
  pub each_once : what.reports + what.rejected ≡ length reports
  pub answer : what.answer ≡ (f t.kind).answer (total_numbers (f t.kind).space (vectors_of f t reports))

-- The counts and the answer of the task's batch are printed.
pub record PrintsCounts (f : Kind → Functions) (s : State) (t : PlainTask)
    (name : List ℕ) (span : Span) (printed : List Printed) : Type 0 where
  pub what : Counts
  pub counted : AreCounted f t (batch_reports s t span) what
  pub is : printed ≡ Collected name span what ∷ []

-- The task's batch is printed, and the state is this one then.
pub record CollectsTo (f : Kind → Functions) (s new : State) (t : PlainTask)
    (name : List ℕ) (span : Span) (after : Outcome) : Type 0 where
  pub printed : PrintsCounts f s t name span after.1
  pub state : after.0 ≡ new

-- how many of the accepted reports of the task's batch have a content
abbrev pub contents_counted : (Kind → Functions) → State → PlainTask → Span → ℕ
contents_counted f s t span = length (vectors_of f t (batch_reports s t span))

-- What line k comes to, which collects a batch of this task, by the first that applies. The start is no multiple of the
-- precision or a bucket starts too late; the batch was collected, and is printed again; a collected batch shares a bucket
-- with it, and the one that starts first is named; it has its task's minimum of reports with a content, and is collected
-- behind the others; else their number is told. Nothing else changes.
pub record CollectsOf (f : Kind → Functions) (s : State) (k : ℕ) (t : PlainTask)
    (name : List ℕ) (span : Span) (after : Outcome) : Type 0 where
  pub start : passes_start span t.precision ≡ false → after ≡ refused s k cause.Start
  pub again : passes_start span t.precision ≡ true → WasCollected s name span → CollectsTo f s s t name span after
  pub overlap : passes_start span t.precision ≡ true → (WasCollected s name span → ⊥)
      → (other : Span) → Overlaps s name t.precision span other
      → (first : Span) × IsFirstOverlap s name t.precision span first × (after ≡ (s, Overlap k first ∷ []))
  pub full : passes_start span t.precision ≡ true → IsFree s name t.precision span
      → t.min ≤ contents_counted f s t span → CollectsTo f s (with_collected s name span) t name span after
  pub few : passes_start span t.precision ≡ true → IsFree s name t.precision span
      → contents_counted f s t span < t.min → after ≡ (s, Small name span (contents_counted f s t span) ∷ [])

-- What line k comes to, which collects: it is refused `task` where the name is no task's, else it goes by the task.
pub record CollectsByTheFirstCause (f : Kind → Functions) (s : State) (k : ℕ)
    (name : List ℕ) (span : Span) (after : Outcome) : Type 0 where
  pub unknown : task_named s.tasks name ≡ None → after ≡ refused s k cause.Task
  pub known : (t : PlainTask) → task_named s.tasks name ≡ Some t → CollectsOf f s k t name span after

-- Where line k prints that it collects the batch, so does a later line behind any lines.
abbrev pub IsRepeated : (Kind → Functions) → State → ℕ → ℕ → List ℕ → Span → Counts → List Line → Type 0
IsRepeated f s k later name span what lines =
    let first = step f s k (line.Collect name span) in
    first.1 ≡ Collected name span what ∷ []
    → (step f (state_after f first.0 (k + 1) lines) later (line.Collect name span)).1 ≡ Collected name span what ∷ []
