use Rattle.std.proofs.Common.{◌≡◌, ℕ, ◌+◌, ◌-◌, ◌*◌, ◌≤◌, ◌^◌, ◌++◌, ap, ◌∙◌, sym, arith, map, take, length}
use Rattle.std.proofs.Math.ListN.{length-map, length-append}
use Rattle.std.proofs.lemmas.Nat.{pow_pos}
use Rattle.std.proofs.lemmas.List.FromFn.{length-map-range_with_len}
use Rattle.std.specs.List.{range_with_len}
use Rattle.poly_ntt.specs.Transform.{values_at_powers}
use Rattle.flp_proof.specs.Proof.{wire, wire_log, interpolated, gadget_polynomial}
use Rattle.flp_proof.proofs.Orders.{twice_order}
use Rattle.flp_proof.proofs.Complete.{length-gadget_polynomial}
use Rattle.flp_proof.proofs.Made.{gadget_values_are, gadget_polynomial_is, interpolated_from}
use Rattle.flp_proof.proofs.Folded.{written}
use Rattle.flp_proof.proofs.proving.prove.Goals as goal

pub log_above-log-requires : goal.log_above-log-requires
log_above-log-requires g c = record { some = rw c.calls.ensures ((g.met.C.Circuit.laws c.args.c.now).has_calls); few = rw c.calls.ensures ((g.met.C.Circuit.laws c.args.c.now).few_calls) }

pub gadget_values-requires-clause-wires : goal.gadget_values-requires-clause-wires
gadget_values-requires-clause-wires g c =
    let F = g.C.F.Field in
    let shape = g.C.Circuit.shape c.args.c.now in
    let l : ℕ = c.log_above-log.result + 1 in
    ap length c.deref.ensures.value ∙ sym (length-map c.in_ok-tables.tables.items (λ w. w.items)) ∙ ap length c.in_ok-tables.ensures
    ∙ length-map-range_with_len (λ j. values_at_powers F.ring (F.root_of l) (2 ^ l) (wire F.ring F.half_of F.root_of shape c.args.x.now c.args.seeds.now j)) 0 shape.arity

pub inverse-requires : goal.inverse-requires
inverse-requires g c =
    let few : c.log_above-log.result + 1 ≤ 12 = omega (arith, c.log_above-log.ensures.few) in
    (c.log_above-log.result + 1, few, ap length (c.deref_mut.ensures.value ∙ c.in_ok-whole.ensures) ∙ length-map-range_with_len _ 0 (2 ^ (c.log_above-log.result + 1)))

pub slice_bounds-push_all-count : goal.slice_bounds-push_all-count
slice_bounds-push_all-count g c =
    let l : ℕ = c.log_above-log.result + 1 in
    let size : length c.in_ok-whole.whole.items ≡ 2 ^ l = ap length c.in_ok-whole.ensures ∙ length-map-range_with_len _ 0 (2 ^ l) in
    omega (arith, pow_pos l, size, c.in_ok-whole.whole.ok.0, c.len.ensures)

pub returns-clause-proof : goal.returns-clause-proof
returns-clause-proof g c =
    let F = g.C.F.Field in
    let met = g.met.C.F.Field in
    let shape = g.C.Circuit.shape c.args.c.now in
    let x = c.args.x.now in
    let seeds = c.args.seeds.now in
    let l : ℕ = c.log_above-log.result in
    let made = c.inverse.new.values in
    let kept : length made ≡ c.in_ok-whole.whole.len = c.inverse.auto.values ∙ ap length c.deref_mut.ensures.value ∙ sym c.in_ok-whole.whole.ok.0 in
    let back : c.deref-2.result.now ≡ made = c.deref-2.ensures.value ∙ written made c.in_ok-whole.whole.items c.in_ok-whole.whole.len kept in
    let size : length c.deref_mut.result.now ≡ 2 ^ (l + 1) = ap length (c.deref_mut.ensures.value ∙ c.in_ok-whole.ensures) ∙ length-map-range_with_len _ 0 (2 ^ (l + 1)) in
    let few : l + 1 ≤ 16 = omega (arith, c.log_above-log.ensures.few) in
    let count : c.len.result ≡ 2 ^ (l + 1) = c.len.ensures ∙ sym kept ∙ c.inverse.auto.values ∙ size in
    let tables : map (λ w. w.items) c.deref.result.now ≡ map (λ j. values_at_powers F.ring (F.root_of (l + 1)) (2 ^ (l + 1)) (wire F.ring F.half_of F.root_of shape x seeds j)) (range_with_len 0 shape.arity) =
    ap (map (λ w. w.items)) c.deref.ensures.value ∙ c.in_ok-tables.ensures in
    c.in_ok-push_all-2.ensures
    ∙ ap (λ n. c.push_all.new.out.items ++ take (n - 1) c.deref-2.result.now) count
    ∙ ap (λ p. c.push_all.new.out.items ++ p)
    (ap (take (2 ^ (l + 1) - 1)) back
    ∙ gadget_polynomial_is F.ring F.half_of F.root_of shape x seeds l made (c.log_above-log.ensures.value ∙ ap wire_log c.calls.ensures)
    (interpolated_from met.laws F.half_of F.root_of (l + 1) c.deref_mut.result.now made met.halves met.roots few size (c.inverse.ensures (l + 1) size)
    ∙ ap (interpolated F.ring F.half_of F.root_of (l + 1)) (c.deref_mut.ensures.value ∙ c.in_ok-whole.ensures ∙ gadget_values_are F.ring F.half_of F.root_of shape x seeds c.deref.result.now (l + 1) tables)))
    ∙ ap (λ p. p ++ gadget_polynomial F.ring F.half_of F.root_of shape x seeds) (c.in_ok-push_all.ensures ∙ ap (λ p. p ++ seeds) c.new-proof.ensures.items)

pub returns-clause-size : goal.returns-clause-size
returns-clause-size g c =
    let F = g.C.F.Field in
    let met = g.met.C.F.Field in
    let shape = g.C.Circuit.shape c.args.c.now in
    let seeds = c.args.seeds.now in
    let l : ℕ = wire_log shape.calls in
    let polynomial = gadget_polynomial F.ring F.half_of F.root_of shape c.args.x.now seeds in
    let size : length polynomial ≡ 2 ^ (l + 1) - 1 = length-gadget_polynomial met.laws F.half_of F.root_of met.halves met.roots shape (g.met.C.Circuit.laws c.args.c.now) c.args.x.now seeds in
    ap length (returns-clause-proof g c) ∙ length-append seeds polynomial
    ∙ (let e : length seeds + length polynomial ≡ shape.arity + (2 * (2 ^ l - 1) + 1) = omega (arith, size, twice_order l, c.requires.seeds) in e)
