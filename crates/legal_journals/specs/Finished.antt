-- The reports that a helper lane's journal finishes.
use Rattle.std.specs.Prelude.{ℕ, length, Bool, false, ◌&&◌, cond, List, [], ◌∷◌, reverse, Option, Some, None}
use Rattle.std.specs.List.{list_all}
use Rattle.std.specs.Option.{option_or}
use Rattle.std.specs.Str.{bytes_eq}
use Rattle.dap_messages.specs.declared.job.JobNo.{JobNo}
use Rattle.dap_messages.specs.declared.item.Tagged.{Tagged}
use Rattle.lane_records.specs.declared.outcome.Outcome.{Outcome}
use Rattle.lane_records.specs.declared.record.Record.{Record}
use Rattle.lane_records.specs.declared.record.Record.TheVariants.{Start, Commit}
use Rattle.legal_journals.specs.History.{first}
use Rattle.dap_messages.specs.Jobs.{is_same_job}
use Rattle.legal_journals.specs.HistoryTests.{same_ids}
use Rattle.legal_journals.specs.LaneTests.{finishes, is_new}
use Rattle.legal_journals.specs.Reports.{Report}

-- the name of the job's Start
abbrev pub name_under : JobNo → Record → Option (List ℕ)
name_under j (Start job n hs) = cond (is_same_job job j) (Some n) None
name_under j _ = None

-- it is this name
abbrev pub is_named : List ℕ → Option (List ℕ) → Bool
is_named n None = false
is_named n (Some m) = bytes_eq m n

-- these outcomes finish the report under the name
abbrev pub names_report : Option (List ℕ) → List (Tagged Outcome) → Report → Bool
names_report name outs q = is_named q.0 name && finishes q.1 outs

-- the record finishes the report, by the first Start of its job among those before it, the oldest first
abbrev pub finishes_now : Report → Record → List Record → Bool
finishes_now q (Commit j outs) before = names_report (first (name_under j) before) outs q
finishes_now q _ before = false

-- the place of the first record that finishes the report, with the newest record first
abbrev pub finished_first : Report → List Record → Option ℕ
finished_first q [] = None
finished_first q (x ∷ old) = option_or (finished_first q old) (cond (finishes_now q x (reverse old)) (Some (length old)) None)

-- and with the oldest first
abbrev pub finished_place : Report → List Record → Option ℕ
finished_place q records = finished_first q (reverse records)

-- a Start with the identifiers of these outcomes, of which none is that of a report which was finished before
abbrev pub start_has : List (Tagged Outcome) → List Record → Record → Bool
start_has outs earlier (Start j n hs) = same_ids hs outs && list_all (is_new n earlier) outs
start_has outs earlier _ = false
