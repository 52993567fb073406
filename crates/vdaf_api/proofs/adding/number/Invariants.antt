use Rattle.std.proofs.Common.{◌≡◌, ◌≤◌, length, drop}
use Rattle.field_laws.specs.Bytes.{from_low}
use Rattle.vdaf_api.proofs.adding.number.Given as goal

abbrev pub invariant-loop-left : goal.invariant-loop-left
invariant-loop-left l = record {
  within : l.left ≤ length l.bytes;
  value : l.value ≡ from_low (drop l.left l.bytes);
}

abbrev pub decreases-loop-left : goal.decreases-loop-left
decreases-loop-left l = l.left
