-- How far a lane's records were entered into its index.
use Rattle.std.specs.Prelude.{◌≡◌, ◌≤◌, List, take, length}
use Rattle.lane_records.specs.declared.record.Record.{Record}
use Rattle.legal_journals.specs.HelperIndexed.{HelperIndexes}
use Rattle.helper_lane.specs.declared.known.Known.{Known}

-- the index is that of the first records, as many as it counts
pub record IsKnown (known : Known) (records : List Record) : Type 0 where
  pub within : known.count ≤ length records
  pub indexes : HelperIndexes known.index (take known.count records)

-- it is that of all records
pub record KnowsAll (known : Known) (records : List Record) : Type 0 where
  pub count : known.count ≡ length records
  pub indexes : HelperIndexes known.index records
