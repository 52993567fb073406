use Rattle.std.proofs.Common.{ℕ, List, [], ◌++◌, take, sym, ap, ◌∙◌, get_or}
use Rattle.std.specs.Prelude.{flat_map}
use Rattle.std.proofs.lemmas.List.{flat_map_more, take_all, take_more}
use Rattle.field128.specs.declared.element.Field128.{Field128}
use Rattle.field128.specs.Element.{ring_of}
use Rattle.flp_circuits.specs.Kinds.{binary}
use Rattle.circuit_vector.proofs.vector.bits_of_list.Goals as goal

pub loop-number-init : goal.loop-number-init
loop-number-init c = c.new-x.ensures.items

pub loop-number-preserved : goal.loop-number-preserved
loop-number-preserved c =
    let m : List ℕ = c.args.m.now in
    let i : ℕ = c.loop-number.number-index in
    let f : ℕ → List Field128 = binary ring_of c.args.bits in
    c.in_ok-extend_from_slice.ensures.items
    ∙ ap (λ l. l ++ c.deref.result.now) c.loop-number.invariant
    ∙ ap (λ l. flat_map f (take i m) ++ l) (c.deref.ensures.value ∙ c.in_ok-binary_digits.ensures)
    ∙ flat_map_more f [] (take i m) (get_or m i 0)
    ∙ ap (flat_map f) (sym (take_more m i 0 c.loop-number-test.true))

pub returns : goal.returns
returns c = c.loop-number.invariant ∙ ap (flat_map (binary ring_of c.args.bits)) (take_all c.loop-number.number-index c.args.m.now c.loop-number-test.false)
