use Rattle.std.proofs.Common.{◌≡◌}
use Rattle.helper_lane.specs.Known.{IsKnown}
use Rattle.helper_lane.proofs.known.Known.catch_up.Given as goal

abbrev pub invariant-loop-place : goal.invariant-loop-place
invariant-loop-place l = IsKnown l.self l.records × (l.self.count ≡ l.place)
