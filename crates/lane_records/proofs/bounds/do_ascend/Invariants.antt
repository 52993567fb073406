use Rattle.std.proofs.Common.{◌≡◌, None, drop}
use Rattle.lane_records.specs.Bounds.{allowed_bounds}
use Rattle.lane_records.proofs.bounds.do_ascend.Given as goal

abbrev pub invariant-loop-number : goal.invariant-loop-number
invariant-loop-number l = allowed_bounds l.last (drop l.number-index l.numbers) ≡ allowed_bounds None l.numbers
