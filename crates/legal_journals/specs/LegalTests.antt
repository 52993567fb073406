-- The test that decides which record may follow which. Lists of records have the oldest first.
use Rattle.std.specs.Prelude.{Bool, ◌&&◌, ◌||◌, List}
use Rattle.std.specs.List.{list_any}
use Rattle.dap_bytes.specs.declared.node.Node.{Node}
use Rattle.dap_bytes.specs.declared.node.Node.TheVariants.{Leader, Helper}
use Rattle.dap_bytes.specs.declared.part.Part.{Part}
use Rattle.dap_bytes.specs.declared.part.Part.TheVariants.{Front, Lane}
use Rattle.lane_records.specs.declared.record.Record.{Record}
use Rattle.lane_records.specs.Records.{record_}
use Rattle.legal_journals.specs.HistoryTests.{is_open}
use Rattle.legal_journals.specs.LaneTests.{leader_lane_may, helper_lane_may}
use Rattle.legal_journals.specs.FrontTests.{leader_front_may, helper_front_may}

-- the record may follow by the rules of the node's part
abbrev pub part_may : Node → Part → Record → List Record → Bool
part_may Leader (Lane lane) x earlier = leader_lane_may lane x earlier
part_may Leader Front x earlier = leader_front_may x earlier
part_may Helper (Lane lane) x earlier = helper_lane_may lane x earlier
part_may Helper Front x earlier = helper_front_may x earlier

-- the same, where it is in the grammar and an Open stands before it or it is one
abbrev pub may : Node → Part → Record → List Record → Bool
may node part x earlier = record_.allowed x && (is_open x || list_any is_open earlier) && part_may node part x earlier
