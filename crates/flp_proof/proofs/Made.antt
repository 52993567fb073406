-- What the code makes, as the definitions say it.
use Rattle.std.proofs.Common.{◌≡◌, ℕ, ◌+◌, ◌-◌, ◌^◌, ◌≤◌, ◌++◌, ◌∷◌, [], List, ap, ◌∙◌, sym, refl, arith, map, take, drop, get_or, length, length-take, length-drop, min, Vec, Global}
use Rattle.std.proofs.Math.ListN.{length-append}
use Rattle.std.proofs.lemmas.Simd.{map-map}
use Rattle.std.proofs.lemmas.List.{get_or-drop, get_or-take}
use Rattle.std.proofs.lemmas.List.FromFn.{length-map-range_with_len, get_or-map-range_with_len, fill_by_all}
use Rattle.std.specs.List.{range_with_len}
use Rattle.field_laws.specs.Ring.{Ring, RingLaws, RootLaws, power}
use Rattle.field_laws.specs.Polynomial.{eval}
use Rattle.field_laws.specs.Interpolation.{Interpolates}
use Rattle.field_laws.proofs.Interpolation.{roots_at, interpolation_only}
use Rattle.poly_ntt.specs.Transform.{values_at_powers}
use Rattle.flp_circuits.specs.Shape.{Shape, gadget}
use Rattle.flp_proof.specs.Proof.{wire, wire_log, wires_at, interpolated, inverse_root, gadget_polynomial, call_results, query_of}
use Rattle.flp_proof.proofs.Complete.{same_on_range}

module _ {F : Type 0} (ring : Ring F) (half : F) (root : ℕ → F) (c : Shape F) (x seeds : List F) where
  pub values_at : (wires : List (Vec F Global)) (t : F) → map (λ w. w.items) wires ≡ map (wire ring half root c x seeds) (range_with_len 0 c.arity)
      → map (λ w. eval ring w.items t) wires ≡ wires_at ring half root c x seeds t
  values_at wires t h =
      sym (map-map (λ p. eval ring p t) (λ (w : Vec F Global). w.items) wires) ∙ ap (map (λ p. eval ring p t)) h ∙ map-map (λ p. eval ring p t) (wire ring half root c x seeds) (range_with_len 0 c.arity)

  -- the entries of the wires' tables are the wires' values
  pub gadget_values_are : (tables : List (Vec F Global)) (log : ℕ)
      → map (λ w. w.items) tables ≡ map (λ j. values_at_powers ring (root log) (2 ^ log) (wire ring half root c x seeds j)) (range_with_len 0 c.arity)
      → map (λ k. gadget ring c (map (λ w. get_or w.items k ring.nought) tables)) (range_with_len 0 (2 ^ log))
      ≡ map (λ k. gadget ring c (wires_at ring half root c x seeds (power ring (root log) k))) (range_with_len 0 (2 ^ log))
  gadget_values_are tables log h =
      same_on_range _ _ 0 (2 ^ log)
      (λ k low high.
      ap (gadget ring c)
      (sym (map-map (λ p. get_or p k ring.nought) (λ (w : Vec F Global). w.items) tables) ∙ ap (map (λ p. get_or p k ring.nought)) h
      ∙ map-map (λ p. get_or p k ring.nought) (λ j. values_at_powers ring (root log) (2 ^ log) (wire ring half root c x seeds j)) (range_with_len 0 c.arity)
      ∙ same_on_range _ (λ j. eval ring (wire ring half root c x seeds j) (power ring (root log) k)) 0 c.arity
      (λ j first last. get_or-map-range_with_len (λ k. eval ring (wire ring half root c x seeds j) (power ring (root log) k)) 0 (2 ^ log) k k ring.nought (omega arith) (omega arith))))

  pub gadget_polynomial_is : (log : ℕ) (whole : List F) → log ≡ wire_log c.calls
      → whole ≡ interpolated ring half root (log + 1) (map (λ k. gadget ring c (wires_at ring half root c x seeds (power ring (root (log + 1)) k))) (range_with_len 0 (2 ^ (log + 1))))
      → take (2 ^ (log + 1) - 1) whole ≡ gadget_polynomial ring half root c x seeds
  unfolding gadget_polynomial
  gadget_polynomial_is log whole e h =
      ap (take (2 ^ (log + 1) - 1)) h
      ∙ ap (λ l. take (2 ^ (l + 1) - 1) (interpolated ring half root (l + 1) (map (λ k. gadget ring c (wires_at ring half root c x seeds (power ring (root (l + 1)) k))) (range_with_len 0 (2 ^ (l + 1)))))) e

  pub query_is : (one t : F) (joint results : List F) (wires : List (Vec F Global)) → map (λ w. w.items) wires ≡ map (wire ring half root c x seeds) (range_with_len 0 c.arity)
      → results ≡ call_results ring half root c (drop c.arity seeds)
      → c.validity one x joint results ∷ (map (λ w. eval ring w.items t) wires ++ (eval ring (drop c.arity seeds) t ∷ [])) ≡ query_of ring half root c one x seeds joint t
  unfolding query_of
  query_is one t joint results wires h e =
      ap (λ r. c.validity one x joint r ∷ (map (λ w. eval ring w.items t) wires ++ (eval ring (drop c.arity seeds) t ∷ []))) e
      ∙ ap (λ ws. c.validity one x joint (call_results ring half root c (drop c.arity seeds)) ∷ (ws ++ (eval ring (drop c.arity seeds) t ∷ []))) (values_at wires t h)

-- a verifier has the validity value, the wires and the gadget polynomial's value
pub length-query : {F : Type 0} (ring : Ring F) (half : F) (root : ℕ → F) (c : Shape F) (one : F) (x proof joint : List F) (t : F) → length (query_of ring half root c one x proof joint t) ≡ c.arity + 2
unfolding query_of
length-query {F = F} ring half root c one x proof joint t =
    let last : F = eval ring (drop c.arity proof) t in
    let wires = wires_at ring half root c x proof t in
    omega (arith, length-append wires (last ∷ []), length-map-range_with_len (λ j. eval ring (wire ring half root c x proof j) t) 0 c.arity)

-- what interpolate answers is the polynomial of the definition
pub interpolated_from : {F : Type 0} {ring : Ring F} (laws : RingLaws ring) (half : F) (root : ℕ → F) (log : ℕ) (values p : List F) → ring.add half half ≡ ring.unit → RootLaws ring 16 root → log ≤ 16
    → length values ≡ 2 ^ log → Interpolates ring (root log) values p → p ≡ interpolated ring half root log values
interpolated_from {ring = ring} laws half root log values p halves roots few size meets =
    interpolation_only laws half (root log) (inverse_root ring half root log) log values p (roots_at laws half 16 root log halves roots few) size meets

-- entries 1 to calls of the values at the powers of the root are the calls' results
pub call_results_are : {F : Type 0} (ring : Ring F) (half : F) (root : ℕ → F) (c : Shape F) (g : List F) → c.calls + 1 ≤ 2 ^ wire_log c.calls
    → take c.calls (drop 1 (values_at_powers ring (root (wire_log c.calls)) (2 ^ wire_log c.calls) g)) ≡ call_results ring half root c g
call_results_are {F = F} ring half root c g fits =
    let n : ℕ = 2 ^ wire_log c.calls in
    let x : F = root (wire_log c.calls) in
    let values : List F = values_at_powers ring x n g in
    let size : length values ≡ n = length-map-range_with_len (λ k. eval ring g (power ring x k)) 0 n in
    fill_by_all (λ i. eval ring g (power ring x (i + 1))) (take c.calls (drop 1 values)) c.calls ring.nought
    (length-take c.calls (drop 1 values) ∙ (let e : min c.calls (length (drop 1 values)) ≡ c.calls = omega (arith, length-drop 1 values, size) in e))
    (λ j small.
    get_or-take c.calls (drop 1 values) j ring.nought small ∙ get_or-drop 1 values j ring.nought
    ∙ get_or-map-range_with_len (λ k. eval ring g (power ring x k)) 0 n (1 + j) (j + 1) ring.nought (omega arith) (omega arith))

pub map_push : {X Y : Type 0} (f : X → Y) (xs : List X) (x : X) → map f (xs ++ (x ∷ [])) ≡ map f xs ++ (f x ∷ [])
map_push f [] x = refl
map_push f (y ∷ ys) x = ap (λ l. f y ∷ l) (map_push f ys x)
