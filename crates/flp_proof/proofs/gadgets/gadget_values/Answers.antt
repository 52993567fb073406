use Rattle.std.proofs.Common.{ℕ, ◌++◌, ◌∷◌, [], ap, ◌∙◌, sym, arith, map, get_or}
use Rattle.std.specs.List.{range_with_len}
use Rattle.std.proofs.lemmas.List.FromFn.{map-range_with_len_more}
use Rattle.flp_circuits.specs.Shape.{gadget}
use Rattle.flp_proof.proofs.gadgets.gadget_values.Goals as goal

pub loop-k-preserved : goal.loop-k-preserved
loop-k-preserved g c =
    let ring = g.C.F.Field.ring in
    let shape = g.C.Circuit.shape c.args.c.now in
    let tables = c.args.tables.now in
    let k : ℕ = c.loop-k.k in
    c.in_ok-push.ensures.items ∙ ap (λ l. l ++ (c.gadget.result ∷ [])) c.loop-k.invariant
    ∙ ap (λ x. map (λ k. gadget ring shape (map (λ w. get_or w.items k ring.nought) tables)) (range_with_len 0 k) ++ (x ∷ []))
    (c.gadget.ensures ∙ ap (gadget ring shape)
    (c.deref.ensures.value ∙ c.in_ok-push_entries.ensures ∙ ap (λ l. l ++ map (λ w. get_or w.items k ring.nought) tables) c.new-at.ensures.items))
    ∙ sym (map-range_with_len_more (λ k. gadget ring shape (map (λ w. get_or w.items k ring.nought) tables)) 0 k k (omega arith))
