use Rattle.std.proofs.Common.{◌≡◌, ℕ, suc, ◌+◌, ◌/◌, ◌%◌, ◌^◌, ◌++◌, ◌∷◌, [], ap, ◌∙◌, sym, arith}
use Rattle.std.specs.Prelude.{nat_eq}
use Rattle.std.proofs.Math.Nat.{div-one, div-div-eq-div-mul, pow-suc}
use Rattle.std.proofs.lemmas.List.FromFn.{map-range_with_len_more}
use Rattle.flp_circuits.specs.Kinds.{bit, binary}
use Rattle.flp_circuits.proofs.entries.binary_digits.Goals as goal

pub loop-i-init : goal.loop-i-init
loop-i-init g c = record { rest = sym (div-one c.args.m); digits = c.new-digits.ensures.items }

pub loop-i-preserved : goal.loop-i-preserved
loop-i-preserved g c =
    let ring = g.F.Field.ring in
    let i : ℕ = c.loop-i._i in
    let m : ℕ = c.args.m in
    record {
      rest = ap (λ r. r / 2) c.loop-i.invariant.rest ∙ div-div-eq-div-mul m (2 ^ i) 2 ∙ ap (λ k. m / k) (sym (pow-suc 2 i)) ∙ ap (λ k. m / 2 ^ k) (let e : suc i ≡ i + 1 = omega arith in e);
      digits = c.in_ok-push.ensures.items ∙ ap (λ l. l ++ (c.bit_of.result ∷ [])) c.loop-i.invariant.digits
          ∙ ap (λ x. binary ring i m ++ (x ∷ [])) (c.bit_of.ensures ∙ ap (λ r. bit ring (nat_eq (r % 2) 1)) c.loop-i.invariant.rest)
          ∙ sym (map-range_with_len_more (λ i. bit ring (nat_eq (m / 2 ^ i % 2) 1)) 0 i i (omega arith));
    }
