use Rattle.std.proofs.Common.{◌≡◌, ℕ, suc, ◌+◌, ◌*◌, ◌≤◌, ◌++◌, ◌∷◌, [], List, map, drop, take, length, sym, ap, ◌∙◌, refl, arith, get_or}
use Rattle.std.specs.List.{range_with_len}
use Rattle.std.proofs.Math.Nat.{suc-mul, mul-le-mul, le_refl}
use Rattle.std.proofs.lemmas.List.{length-drop, drop-drop, get_or-take}
use Rattle.std.proofs.lemmas.List.FromFn.{map-range_with_len_more}
use Rattle.field_laws.specs.Ring.{power}
use Rattle.field128.specs.declared.element.Field128.{Field128}
use Rattle.field128.specs.Element.{ring_of}
use Rattle.field128.specs.Laws.{laws}
use Rattle.flp_circuits.specs.Kinds.{weighted}
use Rattle.flp_circuits.specs.LinearityLaws.{weighted-entries}
use Rattle.flp_circuits.proofs.Weights.{weighted-from_unit}
use Rattle.circuit_vector.specs.Vector.{entry}
use Rattle.circuit_vector.proofs.vector.VectorCircuitCircuit.truncate.Goals as goal

pub loop-j-init : goal.loop-j-init
loop-j-init c = let bits : ℕ = c.args.self.now.bits in record {
  rest = ap (λ k. drop k c.args.x.now) (let e : 0 ≡ 0 * bits = omega arith in e);
  out = c.new-out.ensures.items;
}

pub split_at-requires : goal.split_at-requires
split_at-requires c =
    let bits : ℕ = c.args.self.now.bits in
    let j : ℕ = c.loop-j._j in
    let more : suc j * bits ≤ c.args.self.now.len * bits = mul-le-mul c.loop-j-test.true (le_refl bits) in
    omega (arith, more, suc-mul j bits, ap length c.loop-j.invariant.rest, length-drop (j * bits) c.args.x.now, c.requires)

pub loop-j-preserved : goal.loop-j-preserved
loop-j-preserved c =
    let x : List Field128 = c.args.x.now in
    let bits : ℕ = c.args.self.now.bits in
    let j : ℕ = c.loop-j._j in
    let digits : List Field128 = c.split_at.result.0.now in
    let rest : List Field128 = c.loop-j.rest.now in
    let wide : c.from.result ≡ bits = omega arith in
    let step : j * bits + bits ≡ (j + 1) * bits = sym (suc-mul j bits) ∙ ap (λ k. k * bits) (let e : suc j ≡ j + 1 = omega arith in e) in
    let two : c.add-two.result ≡ ring_of.add ring_of.unit ring_of.unit = c.add-two.ensures ∙ ap (λ a. ring_of.add a c.one-2.result) c.one.ensures ∙ ap (ring_of.add ring_of.unit) c.one-2.ensures in
    let spells : c.weigh.result ≡ entry ring_of bits x j =
    c.weigh.ensures
    ∙ ap (λ n. weighted ring_of (λ i. ring_of.mul c.one-in-loop-j.result (power ring_of c.add-two.result i)) n digits) (c.split_at.ensures.front_len ∙ wide)
    ∙ ap (λ o. weighted ring_of (λ i. ring_of.mul o (power ring_of c.add-two.result i)) bits digits) c.one-in-loop-j.ensures
    ∙ ap (λ t. weighted ring_of (λ i. ring_of.mul ring_of.unit (power ring_of t i)) bits digits) two
    ∙ weighted-from_unit laws.ring_laws bits digits
    ∙ weighted-entries laws.ring_laws _ bits digits (drop (j * bits) x)
    (λ i small. ap (λ l. get_or l i ring_of.nought) (c.split_at.ensures.front ∙ ap (λ k. take k rest) wide) ∙ get_or-take bits rest i ring_of.nought small
    ∙ ap (λ l. get_or l i ring_of.nought) c.loop-j.invariant.rest) in
    record {
      rest = c.split_at.ensures.back ∙ ap (λ k. drop k rest) wide ∙ ap (drop bits) c.loop-j.invariant.rest ∙ drop-drop bits (j * bits) x ∙ ap (λ k. drop k x) step;
      out = c.in_ok-push.ensures.items ∙ ap (λ l. l ++ (c.weigh.result ∷ [])) c.loop-j.invariant.out
          ∙ ap (λ v. map (entry ring_of bits x) (range_with_len 0 j) ++ (v ∷ [])) spells
          ∙ sym (map-range_with_len_more (entry ring_of bits x) 0 j j (omega arith));
    }

pub returns : goal.returns
returns c =
    let whole : c.loop-j._j ≡ c.args.self.now.len = omega (arith, c.loop-j-test.false, c.loop-j.auto._j-end) in
    c.loop-j.invariant.out ∙ ap (λ n. map (entry ring_of c.args.self.now.bits c.args.x.now) (range_with_len 0 n)) whole
