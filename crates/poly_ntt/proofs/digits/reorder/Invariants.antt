use Rattle.poly_ntt.proofs.Swaps.{Placed}
use Rattle.poly_ntt.proofs.digits.reorder.Given as goal

abbrev pub invariant-loop-i : goal.invariant-loop-i
invariant-loop-i g l = Placed g.F.Field.ring.nought l.fn.log l.fn.p l.p l.i
