use Rattle.std.proofs.Common.{◌≡◌, ℕ, ◌+◌, ◌^◌, ◌++◌, ◌∷◌, [], ap, ◌∙◌, sym, arith, map, length}
use Rattle.std.specs.List.{range_with_len}
use Rattle.std.proofs.lemmas.List.{get_or_default}
use Rattle.std.proofs.lemmas.List.FromFn.{map-range_with_len_more, length-map-range_with_len}
use Rattle.field_laws.specs.Interpolation.{coefficient}
use Rattle.poly_ntt.specs.Transform.{values_at_powers}
use Rattle.flp_proof.specs.Proof.{wire, wire_values, interpolated, inverse_root, wire_log}
use Rattle.flp_proof.proofs.Orders.{twice_order}
use Rattle.flp_proof.proofs.Made.{map_push}
use Rattle.flp_proof.proofs.wires.tables_of.Goals as goal

pub values_at_roots-requires-clause-short : goal.values_at_roots-requires-clause-short
values_at_roots-requires-clause-short g c =
    let F = g.C.F.Field in
    let log : ℕ = c.args.log in
    let values = wire_values F.ring F.half_of F.root_of (g.C.Circuit.shape c.args.c.now) c.args.x.now c.index-seeds-j.result c.loop-j.j in
    let size : length c.in_ok-w.w.items ≡ 2 ^ log = ap length c.in_ok-w.ensures ∙ length-map-range_with_len (coefficient F.ring F.half_of (inverse_root F.ring F.half_of F.root_of log) log values) 0 (2 ^ log) in
    omega (arith, size, ap length c.deref.ensures.value, twice_order log)

pub loop-j-preserved : goal.loop-j-preserved
loop-j-preserved g c =
    let F = g.C.F.Field in
    let shape = g.C.Circuit.shape c.args.c.now in
    let j : ℕ = c.loop-j.j in
    let seeds = c.args.seeds.now in
    let at = values_at_powers F.ring (F.root_of (c.args.log + 1)) (2 ^ (c.args.log + 1)) in
    let one_wire = wire F.ring F.half_of F.root_of shape c.args.x.now seeds in
    ap (map (λ w. w.items)) c.in_ok-push.ensures.items ∙ map_push (λ w. w.items) c.loop-j.tables.items c.in_ok-values_at_roots.field-0
    ∙ ap (λ l. l ++ (c.in_ok-values_at_roots.field-0.items ∷ [])) c.loop-j.invariant
    ∙ ap (λ p. map (λ j. at (one_wire j)) (range_with_len 0 j) ++ (p ∷ []))
    (c.in_ok-values_at_roots.ensures
    ∙ ap at
    (c.deref.ensures.value ∙ c.in_ok-w.ensures
    ∙ ap (λ l. interpolated F.ring F.half_of F.root_of l (wire_values F.ring F.half_of F.root_of shape c.args.x.now c.index-seeds-j.result j)) c.requires.log
    ∙ ap (λ s. interpolated F.ring F.half_of F.root_of (wire_log shape.calls) (wire_values F.ring F.half_of F.root_of shape c.args.x.now s j))
    (c.index-seeds-j.is ∙ get_or_default seeds j c.index-seeds-j.result F.ring.nought (omega (arith, c.requires.seeds, c.arity-j-end.ensures)))))
    ∙ sym (map-range_with_len_more (λ j. at (one_wire j)) 0 j j (omega arith))
