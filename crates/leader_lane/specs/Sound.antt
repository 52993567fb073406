-- A lane's journal with its place.
use Rattle.std.specs.Prelude.{◌≡◌, ℕ, ◌≤◌, ◌<◌, List, Some}
use Rattle.dap_bytes.specs.declared.node.Node.TheVariants.{Leader}
use Rattle.dap_bytes.specs.declared.part.Part.TheVariants.{Lane}
use Rattle.lane_records.specs.declared.place.Place.{Place}
use Rattle.lane_records.specs.declared.place.TheConstants.{MOST_LANES}
use Rattle.lane_records.specs.declared.format.Format.TheVariants.{Two}
use Rattle.lane_records.specs.declared.record.Record.{Record}
use Rattle.lane_records.specs.declared.record.Record.TheVariants.{LeaderOpen}
use Rattle.lane_records.specs.Journal.{spell_all}
use Rattle.legal_journals.specs.History.{Mem, lanes_in}
use Rattle.legal_journals.specs.Legal.{IsLegalJournal}

-- a place within its ranges
pub record IsPlace (place : Place) : Type 0 where
  pub some_lane : 1 ≤ place.lanes
  pub few_lanes : place.lanes ≤ MOST_LANES
  pub own_lane : place.lane < place.lanes

-- the Open that a lane of this place appends
abbrev pub opener_of : Place → Record
opener_of place = LeaderOpen Two place.lanes place.lane

-- each Open names the lane's number of lanes
abbrev pub OpensAre : Place → List Record → Type 0
OpensAre place l = (x : Record) (n : ℕ) → Mem x l → lanes_in x ≡ Some n → n ≡ place.lanes

-- a legal journal of the lane, whose Opens name its number of lanes
pub record Sound (place : Place) (l : List Record) : Type 0 where
  pub legal : IsLegalJournal Leader (Lane place.lane) l
  pub lanes : OpensAre place l

-- the byte strings of a log spell these records, which are a sound journal
abbrev pub Spells : Place → List (List ℕ) → List Record → Type 0
Spells place texts l = (texts ≡ spell_all l) × Sound place l
