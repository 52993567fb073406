use Rattle.std.proofs.Common.{◌≡◌, ◌≤◌, length}
use Rattle.flp_circuits.specs.Kinds.{total}
use Rattle.flp_circuits.proofs.entries.sum_all.Given as goal

abbrev pub invariant-loop-x : goal.invariant-loop-x
invariant-loop-x g l = record {
  within : l.x-index ≤ length l.xs;
  sum : l.sum ≡ total g.F.Field.ring l.x-index l.xs;
}
