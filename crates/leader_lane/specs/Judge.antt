-- How a leader's lane judges uploads. Lists of records have the oldest first.
use Rattle.std.specs.Prelude.{◌≡◌, ◌⊎◌, ℕ, List, [], ◌∷◌, ◌++◌, filter_map, ◌==◌, ◌&&◌, Bool, if◌then◌else◌, Option, Some, None}
use Rattle.std.specs.List.{find, list_any}
use Rattle.std.specs.Option.{option_map_or}
use Rattle.std.specs.Result.{result_ok}
use Rattle.std.specs.Str.{bytes_eq}
use Rattle.dap_batch.specs.Group.{batch_start, lane_number}
use Rattle.dap_messages.specs.Grammar.{whole}
use Rattle.dap_messages.specs.Messages.{report}
use Rattle.dap_messages.specs.Reports.{known_in}
use Rattle.dap_messages.specs.declared.report.Report.{Report}
use Rattle.dap_tasks.specs.Judged.{judged}
use Rattle.dap_tasks.specs.Task.{PlainTask, has_name}
use Rattle.dap_tasks.specs.declared.cause.Answer.{Answer}
use Rattle.dap_tasks.specs.declared.cause.Cause.{Cause}
use Rattle.dap_tasks.specs.declared.cause.Cause.TheVariants.{Task, Form}
use Rattle.dap_tasks.specs.declared.cause.Judged.{Judged}
use Rattle.dap_tasks.specs.declared.cause.Judged.TheVariants.{Again, Barred, Added}
use Rattle.dap_wire.specs.declared.upload.Upload.{Upload}
use Rattle.lane_records.specs.declared.place.Place.{Place}
use Rattle.lane_records.specs.declared.record.Record.{Record}
use Rattle.lane_records.specs.declared.record.Record.TheVariants.{LeaderClose}
use Rattle.lane_records.specs.Records.{accept_of}
use Rattle.legal_journals.specs.Reports.{Batch}

-- ---- records

-- the bucket that a Close closes
abbrev pub bucket_closed : Record → Option Batch
bucket_closed (LeaderClose n s c) = Some (n, s)
bucket_closed _ = None

-- the accepted reports, in order
abbrev pub reports_in : List Record → List Report
reports_in records = filter_map accept_of records

-- the closed buckets, in order
abbrev pub closes_in : List Record → List Batch
closes_in records = filter_map bucket_closed records

-- the bucket of this name and start
abbrev pub is_bucket : List ℕ → ℕ → Batch → Bool
is_bucket name start b = bytes_eq b.0 name && b.1 == start

-- the bucket of this name and start is among the closed ones
abbrev pub is_closed : List Batch → List ℕ → ℕ → Bool
is_closed closed name start = list_any (is_bucket name start) closed

-- ---- judging

-- what a lane judges by beside its records: its tasks and its place
pub record Env : Type 0 where
  pub tasks : List PlainTask
  pub place : Place

-- the report that an upload's bytes are, if they are one
abbrev pub report_of : Upload → Option Report
report_of u = result_ok (whole report u.report)

-- what a report of a task comes to
abbrev pub judge_known : List Batch → List Report → Upload → Report → PlainTask → Judged
judge_known closed accepted u r t =
    judged (known_in accepted r.name r.id) u.moment t.expires (is_closed closed r.name (batch_start r.time t.precision)) u.report r.time

-- what a report comes to: an identifier of another lane, and a task that the lane doesn't have, count as no task
abbrev pub judge_report : Env → List Batch → List Report → Upload → Report → Judged
judge_report env closed accepted u r =
    if lane_number r.id env.place.lanes == env.place.lane
    then option_map_or (judge_known closed accepted u r) (find (has_name r.name) env.tasks) (Barred Task)
    else Barred Task

-- What an upload comes to where these buckets are closed and these reports are accepted. Bytes that are no report are barred by their form.
abbrev pub judge : Env → List Batch → List Report → Upload → Judged
judge env closed accepted u = option_map_or (judge_report env closed accepted u) (report_of u) (Barred Form)

-- the report, where it is added
abbrev pub added_by : Judged → Option Report → List Report
added_by Added (Some r) = r ∷ []
added_by _ _ = []

-- why it is barred
abbrev pub cause_by : Judged → Option Cause
cause_by Again = None
cause_by (Barred why) = Some why
cause_by Added = None

-- the report that an upload adds, or none
abbrev pub adds : Env → List Batch → List Report → Upload → List Report
adds env closed accepted u = added_by (judge env closed accepted u) (report_of u)

-- what an upload is told
abbrev pub tells : Env → List Batch → List Report → Upload → Answer
tells env closed accepted u = record { line = u.line; cause = cause_by (judge env closed accepted u) }

-- what a list of values adds to those that are there, each after those before it
abbrev pub added : {A U : Type 0} → (List A → U → List A) → List A → List U → List A
added f old [] = []
added f old (u ∷ us) = f old u ++ added f (old ++ f old u) us

-- what each of them is told
abbrev pub told : {A U B : Type 0} → (List A → U → List A) → (List A → U → B) → List A → List U → List B
told f g old [] = []
told f g old (u ∷ us) = g old u ∷ told f g (old ++ f old u) us

-- What a lane did with these uploads between two moments: each was judged after those before it, by its own moment; the reports that were added are accepted, no bucket was closed, and these are the answers.
pub record Judges (env : Env) (old new : List Record) (us : List Upload) (answers : List Answer) : Type 0 where
  pub accepted : reports_in new ≡ reports_in old ++ added (adds env (closes_in old)) (reports_in old) us
  pub closed : closes_in new ≡ closes_in old
  pub answered : answers ≡ told (adds env (closes_in old)) (tells env (closes_in old)) (reports_in old) us

-- one list is the end of the other
abbrev pub SameEnd : {A : Type 0} → List A → List A → Type 0
SameEnd {A} xs ys = ((front : List A) × (xs ≡ front ++ ys)) ⊎ ((front : List A) × (ys ≡ front ++ xs))

-- What a lane's type keeps of its uploads since its start point, where it had these reports and closed buckets.
pub record SinceStart (env : Env) (first : List Report) (closed : List Batch) (records : List Record) (judged_since : List Upload) (answers : List Answer) : Type 0 where
  pub accepted : reports_in records ≡ first ++ added (adds env closed) first judged_since
  pub closes_are : closes_in records ≡ closed
  pub answered : SameEnd answers (told (adds env closed) (tells env closed) first judged_since)
