use Rattle.std.proofs.Common.{◌≡◌, arith, ◌^◌, ◌<◌, inl, inr, subst, refl}
use Rattle.poly_ntt.specs.Transform.{reversed}
use Rattle.poly_ntt.proofs.Reversed.{reversed-below}
use Rattle.poly_ntt.proofs.Swaps.{Changed, placed_same, placed_changed}
use Rattle.poly_ntt.proofs.digits.reorder.Goals as goal
use Rattle.poly_ntt.proofs.digits.reorder.Goals.{then-i-j, else-i-j}

pub loop-i-init : goal.loop-i-init
loop-i-init g c = record { done = λ k h before. elim before [ inl b ↦ absurd (omega arith) | inr b ↦ absurd (omega arith) ]; rest = λ k h a b. refl }

pub swap-requires-clause-b_in_bounds : goal.swap-requires-clause-b_in_bounds
swap-requires-clause-b_in_bounds g c = omega (arith, c.reverse_digits-j.ensures, reversed-below c.args.log c.loop-i.i (omega (arith, c.requires.size)), c.requires.size, c.loop-i.auto.p)

pub loop-i-preserved : goal.loop-i-preserved
loop-i-preserved g c =
    let nought = g.F.Field.ring.nought in
    let small : c.loop-i.i < 2 ^ c.args.log = omega (arith, c.requires.size) in
    elim c.if-i-j.branch [
      | then-i-j w ↦
          let h = w.swap.ensures.by_index in
          let is : c.reverse_digits-j.result ≡ reversed c.args.log c.loop-i.i = c.reverse_digits-j.ensures in
          let change : Changed nought c.loop-i.p w.swap.new.self c.loop-i.i c.reverse_digits-j.result = record { first = h.0 nought; second = h.1 nought; others = λ k a b. h.2 k nought a b } in
          rw w.p-is (placed_changed nought c.args.log c.args.p.now c.loop-i.p c.loop-i.i small w.swap.new.self (omega (arith, is, w.if-i-j.true))
          (subst (λ j. Changed nought c.loop-i.p w.swap.new.self c.loop-i.i j) is change) c.loop-i.invariant)
      | else-i-j w ↦ rw w.p-is (placed_same nought c.args.log c.args.p.now c.loop-i.p c.loop-i.i small (omega (arith, w.if-i-j.false, c.reverse_digits-j.ensures)) c.loop-i.invariant)
    ]

pub returns : goal.returns
returns g c = λ k h. c.loop-i.invariant.done k h (inl (omega (arith, c.requires.size, c.loop-i-test.false)))
