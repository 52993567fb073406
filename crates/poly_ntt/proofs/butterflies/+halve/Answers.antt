use Rattle.std.proofs.Common.{◌≡◌, ℕ, suc, ◌+◌, ◌-◌, ◌/◌, ◌^◌, ◌++◌, ap, ◌∙◌, sym, arith, take, drop, length}
use Rattle.std.proofs.Math.Nat.{pow-suc}
use Rattle.field_laws.specs.Polynomial.{add_polynomials}
use Rattle.poly_ntt.specs.Transform.{halving, twisted}
use Rattle.poly_ntt.proofs.Halving.{halving-suc}
use Rattle.poly_ntt.proofs.butterflies.+halve.Goals as goal

pub returns-then-log-gt0 : goal.returns-then-log-gt0
returns-then-log-gt0 g t c =
    let ring = g.F.Field.ring in
    let root = g.F.Field.root_of in
    let p = c.args.p.now in
    let l : ℕ = c.args.log - 1 in
    let here : suc l ≡ c.args.log = omega (arith, c.if-log-gt0.true) in
    let half : length p / 2 ≡ 2 ^ l = omega (arith, c.requires.size, ap (λ n. 2 ^ n) here, pow-suc 2 l) in
    let front : c.split_at_mut-front.result.0.now ≡ take (2 ^ l) p = c.split_at_mut-front.ensures.front ∙ ap (λ n. take n p) half in
    let back : c.split_at_mut-front.result.1.now ≡ drop (2 ^ l) p = c.split_at_mut-front.ensures.back ∙ ap (λ n. drop n p) half in
    let own : c.args.root ≡ root (l + 1) = c.requires.root ∙ ap root (let e : c.args.log ≡ l + 1 = omega (arith, here) in e) in
    let sums : c.butterfly.new.front ≡ add_polynomials ring (take (2 ^ l) p) (drop (2 ^ l) p) =
    c.butterfly.ensures.sums ∙ ap (λ a. add_polynomials ring a c.split_at_mut-front.result.1.now) front ∙ ap (add_polynomials ring (take (2 ^ l) p)) back in
    let twists : c.butterfly.new.back ≡ twisted ring (root (l + 1)) ring.unit (take (2 ^ l) p) (drop (2 ^ l) p) =
    c.butterfly.ensures.differences ∙ ap (λ r. twisted ring r ring.unit c.split_at_mut-front.result.0.now c.split_at_mut-front.result.1.now) own
    ∙ ap (λ a. twisted ring (root (l + 1)) ring.unit a c.split_at_mut-front.result.1.now) front ∙ ap (twisted ring (root (l + 1)) ring.unit (take (2 ^ l) p)) back in
    ap (λ a. a ++ c.halve-then-log-gt0.new.p) (c.halve.ensures ∙ ap (halving ring root l) sums)
    ∙ ap (λ b. halving ring root l (add_polynomials ring (take (2 ^ l) p) (drop (2 ^ l) p)) ++ b) (c.halve-then-log-gt0.ensures ∙ ap (halving ring root l) twists)
    ∙ sym (halving-suc g.met.F.Field.laws root l p)
    ∙ ap (λ n. halving ring root n p) here

pub returns-else-log-gt0 : goal.returns-else-log-gt0
unfolding halving
returns-else-log-gt0 g t c = ap (λ n. halving g.F.Field.ring g.F.Field.root_of n c.args.p.now) (let e : 0 ≡ c.args.log = omega (arith, c.if-log-gt0.false) in e)
