use Rattle.std.proofs.Common.{◌≡◌, ℕ, suc, ◌+◌, ◌-◌, ◌*◌, ◌%◌, ◌^◌, ◌<◌, ◌≤◌, subst, arith}
use Rattle.std.proofs.Math.Nat.{pow-suc}
use Rattle.std.proofs.Math.Pow.{pow_mono}
use Rattle.poly_ntt.specs.Transform.{reversed}
use Rattle.poly_ntt.proofs.Reversed.{reversed-below, reversed-zero}
use Rattle.poly_ntt.proofs.Seams.{digit_step, digit_room}
use Rattle.poly_ntt.proofs.digits.reverse_digits.Goals as goal
use Rattle.poly_ntt.proofs.digits.reverse_digits.Goals.{In-loop-left}

made_short : (c : In-loop-left) → c.loop-left.made * 2 + c.loop-left.rest % 2 < 4096
made_short c =
    let l : ℕ = c.loop-left.left - 1 in
    let here : c.loop-left.left ≡ suc l = omega arith in
    let small : c.loop-left.rest < 2 ^ suc l = subst (λ n. c.loop-left.rest < 2 ^ n) here c.loop-left.invariant.small in
    let room : c.loop-left.made * 2 ^ suc l + reversed (suc l) c.loop-left.rest ≡ reversed c.args.log c.args.i = subst (λ n. c.loop-left.made * 2 ^ n + reversed n c.loop-left.rest ≡ reversed c.args.log c.args.i) here c.loop-left.invariant.room in
    let most : 2 ^ c.args.log ≤ 2 ^ 12 = pow_mono (let f : c.args.log ≤ 12 = c.requires.few in f) in
    omega (arith, digit_room c.loop-left.made c.loop-left.rest l (reversed c.args.log c.args.i) small room, reversed-below c.args.log c.args.i c.requires.small, most)

pub overflow_mul-made : goal.overflow_mul-made
overflow_mul-made c = omega (arith, made_short c)

pub overflow_add-made : goal.overflow_add-made
overflow_add-made c = omega (arith, made_short c)

pub loop-left-preserved : goal.loop-left-preserved
loop-left-preserved c =
    let l : ℕ = c.loop-left.left - 1 in
    let here : c.loop-left.left ≡ suc l = omega arith in
    let small : c.loop-left.rest < 2 ^ suc l = subst (λ n. c.loop-left.rest < 2 ^ n) here c.loop-left.invariant.small in
    let room : c.loop-left.made * 2 ^ suc l + reversed (suc l) c.loop-left.rest ≡ reversed c.args.log c.args.i = subst (λ n. c.loop-left.made * 2 ^ n + reversed n c.loop-left.rest ≡ reversed c.args.log c.args.i) here c.loop-left.invariant.room in
    record {
      few = omega arith;
      small = omega (arith, small, pow-suc 2 l);
      room = digit_step c.loop-left.made c.loop-left.rest l (reversed c.args.log c.args.i) small room;
    }

pub returns : goal.returns
returns c =
    let none_left : c.loop-left.left ≡ 0 = omega (arith, c.loop-left-test.false) in
    let room : c.loop-left.made * 2 ^ 0 + reversed 0 c.loop-left.rest ≡ reversed c.args.log c.args.i = subst (λ n. c.loop-left.made * 2 ^ n + reversed n c.loop-left.rest ≡ reversed c.args.log c.args.i) none_left c.loop-left.invariant.room in
    omega (arith, room, reversed-zero c.loop-left.rest)
