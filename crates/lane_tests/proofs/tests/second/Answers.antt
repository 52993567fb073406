use Rattle.std.proofs.Common.{arith}
use Rattle.lane_tests.proofs.tests.second.Goals as goal

pub opened-requires-clause-place : goal.opened-requires-clause-place
opened-requires-clause-place c = record { some_lane = omega arith; few_lanes = omega arith; own_lane = omega arith }
