use Rattle.std.proofs.Common.{◌≡◌, ◌++◌, List, [], take}
use Rattle.lane_records.specs.declared.record.Record.{Record}
use Rattle.leader_lane.specs.Catalog.{Lists}
use Rattle.leader_lane.proofs.catalog.Catalog.catch_up.Given as goal

abbrev pub invariant-loop-x : goal.invariant-loop-x
invariant-loop-x l = (seen more : List Record) → Lists l.initial.self seen [] → l.records ≡ seen ++ more → Lists l.self (seen ++ take l.x-index l.rest) []
