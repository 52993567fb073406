use Rattle.std.proofs.Common.{◌≡◌, ◌+◌, ◌*◌, ◌^◌, ◌<◌, ◌≤◌}
use Rattle.poly_ntt.specs.Transform.{reversed}
use Rattle.poly_ntt.proofs.digits.reverse_digits.Given as goal

abbrev pub invariant-loop-left : goal.invariant-loop-left
invariant-loop-left l = record {
  few : l.left ≤ 12;
  small : l.rest < 2 ^ l.left;
  room : l.made * 2 ^ l.left + reversed l.left l.rest ≡ reversed l.fn.log l.fn.i;
}

abbrev pub decreases-loop-left : goal.decreases-loop-left
decreases-loop-left l = l.left
