use Rattle.std.proofs.Common.{◌≡◌, ◌++◌, length, take}
use Rattle.lane_records.specs.Bounds.{bound_count, spell_bounds}
use Rattle.lane_records.proofs.bounds.put_bounds.Given as goal

abbrev pub invariant-loop-number : goal.invariant-loop-number
invariant-loop-number l = l.out.items ≡ l.fn.out.items ++ ((bound_count l.fn.format).spell (length l.numbers) ++ spell_bounds (take l.number-index l.numbers))
