use Rattle.std.proofs.Common.{◌≡◌, [], ℕ, suc, ◌+◌, ◌<◌, ◌++◌, ap, ◌∙◌, sym, refl, arith, get_or, set, take, drop, length, append-nil}
use Rattle.std.proofs.lemmas.List.{get_or_default, take_all, drop_all}
use Rattle.field_laws.specs.Ring.{power, minus}
use Rattle.field_laws.proofs.Solve.{unit-mul}
use Rattle.field_laws.proofs.Powers.{power-zero, power-suc}
use Rattle.field_laws.specs.Polynomial.{add_polynomials}
use Rattle.field_laws.proofs.Polynomials.{get_or-add, length-add}
use Rattle.poly_ntt.specs.Transform.{twisted}
use Rattle.poly_ntt.proofs.Halving.{length-twisted}
use Rattle.poly_ntt.proofs.Seams.{set_seam, read_seam, get_or-twisted}
use Rattle.poly_ntt.proofs.butterflies.butterfly.Goals as goal

pub loop-i-init : goal.loop-i-init
loop-i-init g c = record { w = c.one-w.ensures ∙ sym (power-zero g.met.F.Field.laws c.args.root); sums = refl; differences = refl }

pub loop-i-preserved : goal.loop-i-preserved
loop-i-preserved g c =
    let ring = g.F.Field.ring in
    let laws = g.met.F.Field.laws in
    let front = c.args.front.now in
    let back = c.args.back.now in
    let root = c.args.root in
    let i : ℕ = c.loop-i.i in
    let next : suc i ≡ i + 1 = omega arith in
    let sums = add_polynomials ring front back in
    let twists = twisted ring root ring.unit front back in
    let in_front : i < length front = omega (arith, c.loop-i-test.true) in
    let in_back : i < length back = omega (arith, c.requires, in_front) in
    let in_sums : i < length sums = omega (arith, length-add ring front back, in_front) in
    let in_twists : i < length twists = omega (arith, length-twisted laws root ring.unit front back c.requires, in_front) in
    let a : c.index-front-i.result ≡ get_or front i ring.nought =
    c.index-front-i.is ∙ get_or_default c.loop-i.front i c.index-front-i.result ring.nought (omega (arith, c.loop-i.auto.front, in_front)) ∙ ap (λ l. get_or l i ring.nought) c.loop-i.invariant.sums ∙ read_seam sums front i ring.nought in_front in_sums in
    let b : c.index-back-i.result ≡ get_or back i ring.nought =
    c.index-back-i.is ∙ get_or_default c.loop-i.back i c.index-back-i.result ring.nought (omega (arith, c.loop-i.auto.back, in_back)) ∙ ap (λ l. get_or l i ring.nought) c.loop-i.invariant.differences ∙ read_seam twists back i ring.nought in_back in_twists in
    let sum : c.add.result ≡ get_or sums i ring.nought =
    c.add.ensures ∙ ap (λ x. ring.add x c.index-back-i.result) a ∙ ap (ring.add (get_or front i ring.nought)) b ∙ sym (get_or-add laws front back i) in
    let difference : c.mul.result ≡ get_or twists i ring.nought =
    c.mul.ensures
    ∙ ap (λ x. ring.mul x c.loop-i.w) (c.sub.ensures ∙ ap (λ x. minus ring x c.index-back-i.result) a ∙ ap (minus ring (get_or front i ring.nought)) b)
    ∙ ap (ring.mul (minus ring (get_or front i ring.nought) (get_or back i ring.nought))) (c.loop-i.invariant.w ∙ sym (unit-mul laws [] (power ring root i)))
    ∙ sym (get_or-twisted laws root ring.unit front back i in_front in_back) in
    record {
      w = c.mul-w.ensures ∙ ap (λ x. ring.mul x root) c.loop-i.invariant.w ∙ laws.mul_comm (power ring root i) root ∙ sym (power-suc laws root i) ∙ ap (power ring root) next;
      sums = ap (λ v. set c.loop-i.front i v) sum ∙ ap (λ l. set l i (get_or sums i ring.nought)) c.loop-i.invariant.sums ∙ set_seam sums front i ring.nought in_front in_sums
          ∙ ap (λ n. take n sums ++ drop n front) next;
      differences = ap (λ v. set c.loop-i.back i v) difference ∙ ap (λ l. set l i (get_or twists i ring.nought)) c.loop-i.invariant.differences ∙ set_seam twists back i ring.nought in_back in_twists
          ∙ ap (λ n. take n twists ++ drop n back) next;
    }

pub returns-clause-sums : goal.returns-clause-sums
returns-clause-sums g c =
    let ring = g.F.Field.ring in
    let front = c.args.front.now in
    let sums = add_polynomials ring front c.args.back.now in
    c.loop-i.invariant.sums ∙ ap (λ l. l ++ drop c.loop-i.i front) (take_all c.loop-i.i sums (omega (arith, length-add ring front c.args.back.now, c.requires, c.loop-i-test.false)))
    ∙ ap (λ l. sums ++ l) (drop_all c.loop-i.i front (omega (arith, c.loop-i-test.false))) ∙ append-nil sums

pub returns-clause-differences : goal.returns-clause-differences
returns-clause-differences g c =
    let ring = g.F.Field.ring in
    let front = c.args.front.now in
    let back = c.args.back.now in
    let twists = twisted ring c.args.root ring.unit front back in
    c.loop-i.invariant.differences ∙ ap (λ l. l ++ drop c.loop-i.i back) (take_all c.loop-i.i twists (omega (arith, length-twisted g.met.F.Field.laws c.args.root ring.unit front back c.requires, c.loop-i-test.false)))
    ∙ ap (λ l. twists ++ l) (drop_all c.loop-i.i back (omega (arith, c.requires, c.loop-i-test.false))) ∙ append-nil twists
