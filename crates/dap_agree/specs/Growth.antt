-- How journals grow. Lists of records have the newest first.
use Rattle.std.specs.Prelude.{◌≡◌, ℕ, ◌<◌, List, ◌++◌, Some}
use Rattle.dap_tasks.specs.Task.{PlainTask}
use Rattle.lane_records.specs.declared.record.Record.{Record}
use Rattle.lane_records.specs.declared.record.Record.TheVariants.{LeaderTask}
use Rattle.lane_records.specs.declared.stored.StoredTask.{StoredTask}
use Rattle.legal_journals.specs.History.{Mem}
use Rattle.legal_journals.specs.LegalFronts.{last_task}
use Rattle.dap_agree.specs.Agree.{Batch, Fronts}
use Rattle.dap_agree.specs.Fronts.{Journals, held}
use Rattle.dap_agree.specs.Lists.{Sub}

-- the later fronts hold all that the earlier ones did
abbrev pub Grow : Fronts → Fronts → Type 0
Grow fr later =
    ((n : List ℕ) (t : PlainTask) → fr.task n ≡ Some t → later.task n ≡ Some t)
    × ((b : Batch) → Mem b fr.asked → Mem b later.asked)

-- the later list is the earlier one with newer records before it
abbrev pub Extends : List Record → List Record → Type 0
Extends xs ys = (p : List Record) × (ys ≡ p ++ xs)

-- the helper's last Task of each name that the leader's front stored is the same in both
abbrev pub SameTasks : List Record → List Record → List Record → Type 0
SameTasks front earlier later = (a : StoredTask) → Mem (LeaderTask a) front → last_task a.name later ≡ last_task a.name earlier

-- The later journals have all that the earlier ones have: each lane grew, the helper's front has no fewer records and the same tasks for what was stored, and the fronts hold no less.
pub record Later (js later : Journals) : Type 0 where
  pub lanes : later.lanes ≡ js.lanes
  pub leaders : (k : ℕ) → k < js.lanes → Extends (js.leaders k) (later.leaders k)
  pub helpers : (k : ℕ) → k < js.lanes → Extends (js.helpers k) (later.helpers k)
  pub helper_front : Sub js.helper_front later.helper_front
  pub settled : SameTasks js.front js.helper_front later.helper_front
  pub fronts : Grow (held js) (held later)
