use Rattle.std.proofs.Common.{◌≡◌, ℕ, ◌+◌, ◌-◌, ◌^◌, ◌++◌, ◌∷◌, [], ap, ◌∙◌, arith, map, drop, take, length, length-drop, length-take, min, List}
use Rattle.std.proofs.lemmas.List.{take_all}
use Rattle.std.proofs.lemmas.List.FromFn.{length-map-range_with_len}
use Rattle.std.specs.List.{range_with_len}
use Rattle.field_laws.specs.Polynomial.{eval}
use Rattle.poly_ntt.specs.Transform.{values_at_powers}
use Rattle.flp_proof.specs.Proof.{wire, wire_log, call_results}
use Rattle.flp_proof.proofs.Made.{query_is, length-query, call_results_are}
use Rattle.flp_proof.proofs.Orders.{wire_log_fits}
use Rattle.flp_proof.proofs.querying.verifier_share.Goals as goal

pub slice_bounds-validity-end : goal.slice_bounds-validity-end
slice_bounds-validity-end g c =
    let l : ℕ = c.log_above-log.result in
    let size : length c.deref.result.now ≡ 2 ^ l = ap length (c.deref.ensures.value ∙ c.in_ok-values.ensures) ∙ length-map-range_with_len _ 0 (2 ^ l) in
    omega (arith, size, c.log_above-log.ensures.room, c.calls.ensures, c.calls-2.ensures)

pub validity-requires-clause-results : goal.validity-requires-clause-results
validity-requires-clause-results g c =
    let l : ℕ = c.log_above-log.result in
    let values = c.deref.result.now in
    let size : length values ≡ 2 ^ l = ap length (c.deref.ensures.value ∙ c.in_ok-values.ensures) ∙ length-map-range_with_len _ 0 (2 ^ l) in
    length-take (c.calls-2.result + 1 - 1) (drop 1 values)
    ∙ (let e : min (c.calls-2.result + 1 - 1) (length (drop 1 values)) ≡ (g.C.Circuit.shape c.args.c.now).calls = omega (arith, length-drop 1 values, size, c.log_above-log.ensures.room, c.calls.ensures, c.calls-2.ensures) in e)

pub returns-clause-share : goal.returns-clause-share
returns-clause-share g c =
    let F = g.C.F.Field in
    let shape = g.C.Circuit.shape c.args.c.now in
    let x = c.args.x.now in
    let proof = c.args.proof.now in
    let n : ℕ = shape.arity in
    let l : ℕ = c.log_above-log.result in
    let at : ℕ → List g.row.C-F.Denot → List g.row.C-F.Denot = λ l h. take shape.calls (drop 1 (values_at_powers F.ring (F.root_of l) (2 ^ l) h)) in
    let slice : take (length proof - c.arity.result) (drop c.arity.result proof) ≡ drop n proof =
    take_all (length proof - c.arity.result) (drop c.arity.result proof) (omega (arith, length-drop c.arity.result proof)) ∙ ap (λ k. drop k proof) c.arity.ensures in
    let wires : map (λ w. w.items) c.deref-2.result.now ≡ map (wire F.ring F.half_of F.root_of shape x proof) (range_with_len 0 n) =
    ap (map (λ w. w.items)) c.deref-2.ensures.value ∙ c.in_ok-wires.ensures in
    let log_is : l ≡ wire_log shape.calls = c.log_above-log.ensures.value ∙ ap wire_log c.calls.ensures in
    let r = take (c.calls-2.result + 1 - 1) (drop 1 c.deref.result.now) in
    let results : r ≡ call_results F.ring F.half_of F.root_of shape (drop n proof) =
    ap (λ k. take k (drop 1 c.deref.result.now)) (let e : c.calls-2.result + 1 - 1 ≡ shape.calls = omega (arith, c.calls-2.ensures) in e)
    ∙ ap (λ v. take shape.calls (drop 1 v)) (c.deref.ensures.value ∙ c.in_ok-values.ensures)
    ∙ ap (at l) slice ∙ ap (λ k. at k (drop n proof)) log_is
    ∙ call_results_are F.ring F.half_of F.root_of shape (drop n proof) (wire_log_fits shape.calls ((g.met.C.Circuit.laws c.args.c.now).few_calls)).0 in
    c.in_ok-push-2.ensures.items
    ∙ ap (λ l. l ++ (c.eval.result ∷ []))
    (c.in_ok-push_values.ensures
    ∙ ap (λ l. l ++ map (λ w. eval F.ring w.items c.args.t) c.deref-2.result.now) (c.in_ok-push.ensures.items ∙ ap (λ l. l ++ (c.validity.result ∷ [])) c.new-share.ensures.items))
    ∙ ap (λ v. v ∷ (map (λ w. eval F.ring w.items c.args.t) c.deref-2.result.now ++ (c.eval.result ∷ []))) c.validity.ensures
    ∙ ap (λ e. shape.validity c.args.one x c.args.joint.now r ∷ (map (λ w. eval F.ring w.items c.args.t) c.deref-2.result.now ++ (e ∷ [])))
    (c.eval.ensures.value ∙ ap (λ h. eval F.ring h c.args.t) slice)
    ∙ query_is F.ring F.half_of F.root_of shape x proof c.args.one c.args.t c.args.joint.now r c.deref-2.result.now wires results

pub log_above-log-requires : goal.log_above-log-requires
log_above-log-requires g c = record { some = rw c.calls.ensures ((g.met.C.Circuit.laws c.args.c.now).has_calls); few = rw c.calls.ensures ((g.met.C.Circuit.laws c.args.c.now).few_calls) }

pub returns-clause-size : goal.returns-clause-size
returns-clause-size g c =
    let F = g.C.F.Field in
    ap length (returns-clause-share g c) ∙ length-query F.ring F.half_of F.root_of (g.C.Circuit.shape c.args.c.now) c.args.one c.args.x.now c.args.proof.now c.args.joint.now c.args.t
