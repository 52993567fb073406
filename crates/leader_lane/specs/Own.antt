-- The own steps of a leader's lane that opens, accepts and is stopped. Lists of records have the newest first.
use Rattle.std.specs.Prelude.{◌≡◌, List, [], ◌∷◌, ◌++◌, Bool, true, false, Some, reverse}
use Rattle.std.specs.List.{find}
use Rattle.dap_batch.specs.Group.{batch_start}
use Rattle.dap_bytes.specs.declared.node.Node.TheVariants.{Leader}
use Rattle.dap_bytes.specs.declared.part.Part.TheVariants.{Lane}
use Rattle.dap_messages.specs.declared.report.Report.{Report}
use Rattle.dap_tasks.specs.Task.{PlainTask, has_name}
use Rattle.lane_records.specs.declared.record.Record.{Record}
use Rattle.lane_records.specs.declared.record.Record.TheVariants.{Accept}
use Rattle.legal_journals.specs.Legal.{May}
use Rattle.legal_journals.specs.LegalLanes.{IsLeaderClosed}
use Rattle.part_journal.specs.Pages.{Pages}
use Rattle.leader_lane.specs.Judge.{Env}
use Rattle.leader_lane.specs.Sound.{opener_of}

-- the durable records, the block in hand, and whether an Open is durable since the last restart
pub record Own : Type 0 where
  pub l : List Record
  pub block : List Record
  pub up : Bool

-- those of a journal's pages
abbrev pub own : Pages Record → Own
own p = record { l = reverse p.records; block = reverse p.block; up = p.opened }

-- An Open is begun. It is durable. A block is begun with the Accept of a report of the task, or goes on with it. The block is durable. The disk stops, and the block in hand is found behind the restart or not.
pub data OwnStep : Type 0 where
  Reopens : OwnStep
  Opened : OwnStep
  Accepts : PlainTask → Report → OwnStep
  Ends : OwnStep
  Stops : Bool → OwnStep

-- the records with the block, where it is found
abbrev pub kept_or : Bool → List Record → List Record → List Record
kept_or true block l = block ++ l
kept_or false block l = l

-- when a lane may take a step
abbrev pub StepMay : Env → Own → OwnStep → Type 0
StepMay env w Reopens = (w.up ≡ false) × (w.block ≡ []) × May Leader (Lane env.place.lane) (opener_of env.place) w.l
StepMay env w Opened = (w.up ≡ false) × (w.block ≡ opener_of env.place ∷ [])
StepMay env w (Accepts t r) =
    (w.up ≡ true) × May Leader (Lane env.place.lane) (Accept r) (w.block ++ w.l) × (find (has_name r.name) env.tasks ≡ Some t)
    × ¬ (IsLeaderClosed r.name (batch_start r.time t.precision) (w.block ++ w.l))
StepMay env w Ends = w.up ≡ true
StepMay env w (Stops kept) = Unit {0}

-- the lane after a step
abbrev pub after : Env → Own → OwnStep → Own
after env w Reopens = record w { block = opener_of env.place ∷ [] }
after env w Opened = record { l = w.block ++ w.l; block = []; up = true }
after env w (Accepts t r) = record w { block = Accept r ∷ w.block }
after env w Ends = record w { l = w.block ++ w.l; block = [] }
after env w (Stops kept) = record { l = kept_or kept w.block w.l; block = []; up = false }

-- a list of own steps leads from one state to the other
abbrev pub OwnSteps : Env → Own → List OwnStep → Own → Type 0
OwnSteps env w [] v = v ≡ w
OwnSteps env w (s ∷ steps) v = StepMay env w s × OwnSteps env (after env w s) steps v

-- some own steps lead from one state to the other
abbrev pub Steps : Env → Own → Own → Type 0
Steps env w v = (steps : List OwnStep) × OwnSteps env w steps v

-- a lane that is up, with these records and this block in hand, the oldest first
abbrev pub up_with : List Record → List Record → Own
up_with records block = record { l = reverse records; block = reverse block; up = true }
