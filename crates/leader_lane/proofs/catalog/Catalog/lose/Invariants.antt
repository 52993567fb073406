use Rattle.std.proofs.Common.{List, vec_len}
use Rattle.lane_records.specs.declared.record.Record.{Record}
use Rattle.leader_lane.specs.Catalog.{Lists}
use Rattle.leader_lane.proofs.catalog.Catalog.lose.Given as goal

abbrev pub invariant-loop-key : goal.invariant-loop-key
invariant-loop-key l = (records block : List Record) → Lists l.initial.self records block → (b : List Record) × Lists l.self records b

abbrev pub decreases-loop-key : goal.decreases-loop-key
decreases-loop-key l = vec_len l.self.entered
