use Rattle.std.proofs.Common.{ℕ, ◌++◌, ◌∷◌, [], ap, ◌∙◌, sym, arith, map}
use Rattle.std.specs.List.{range_with_len}
use Rattle.std.proofs.lemmas.List.{get_or_default}
use Rattle.std.proofs.lemmas.List.FromFn.{map-range_with_len_more}
use Rattle.flp_proof.specs.Proof.{wire, wire_values, interpolated, wire_log}
use Rattle.flp_proof.proofs.Made.{map_push}
use Rattle.flp_proof.proofs.wires.wires_of.Goals as goal

pub loop-j-preserved : goal.loop-j-preserved
loop-j-preserved g c =
    let F = g.C.F.Field in
    let shape = g.C.Circuit.shape c.args.c.now in
    let j : ℕ = c.loop-j.j in
    let one_wire = wire F.ring F.half_of F.root_of shape c.args.x.now c.args.seeds.now in
    ap (map (λ w. w.items)) c.in_ok-push.ensures.items ∙ map_push (λ w. w.items) c.loop-j.wires.items c.in_ok-wire_of.field-0
    ∙ ap (λ l. l ++ (c.in_ok-wire_of.field-0.items ∷ [])) c.loop-j.invariant
    ∙ ap (λ p. map one_wire (range_with_len 0 j) ++ (p ∷ []))
    (c.in_ok-wire_of.ensures ∙ ap (λ l. interpolated F.ring F.half_of F.root_of l (wire_values F.ring F.half_of F.root_of shape c.args.x.now c.index-seeds-j.result j)) c.requires.log
    ∙ ap (λ s. interpolated F.ring F.half_of F.root_of (wire_log shape.calls) (wire_values F.ring F.half_of F.root_of shape c.args.x.now s j))
    (c.index-seeds-j.is ∙ get_or_default c.args.seeds.now j c.index-seeds-j.result F.ring.nought (omega (arith, c.requires.seeds, c.arity-j-end.ensures))))
    ∙ sym (map-range_with_len_more one_wire 0 j j (omega arith))
