use Rattle.std.proofs.Common.{◌≡◌, ◌≤◌, length, take}
use Rattle.prio3_share.specs.Sharing.{differences}
use Rattle.prio3_share.proofs.splitting.differences.Given as goal

abbrev pub invariant-loop-i : goal.invariant-loop-i
invariant-loop-i g l = record {
  within : l.i ≤ length l.xs;
  taken : l.out.items ≡ differences g.F.Field.ring (take l.i l.xs) (take l.i l.ys);
}
