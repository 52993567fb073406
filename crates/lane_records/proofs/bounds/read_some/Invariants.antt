use Rattle.std.proofs.Common.{◌≡◌, ◌-◌, None}
use Rattle.lane_records.specs.Bounds.{bounds_at}
use Rattle.lane_records.proofs.Loop.{with_front}
use Rattle.lane_records.proofs.bounds.read_some.Given as goal

abbrev pub invariant-loop : goal.invariant-loop
invariant-loop l = with_front l.found.items (bounds_at l.last (l.count - l.counter) l.cursor) ≡ bounds_at None l.count l.fn.cursor
