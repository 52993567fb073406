-- The proof of a valid input is accepted on the sum of the queries of two shares.
use Rattle.std.proofs.Common.{◌≡◌, ℕ, zero, suc, ◌+◌, ◌-◌, ◌*◌, ◌^◌, ◌<◌, ◌≤◌, true, false, cond, List, [], ◌∷◌, ◌++◌, sym, ap, ◌∙◌, refl, arith, subst, get_or, length, map, take, drop}
use Rattle.std.proofs.Math.Dec.{ltb}
use Rattle.std.proofs.Math.Nat.{pow-suc}
use Rattle.std.proofs.Math.Seq.{take-append_seam, drop-append_seam, get_or-append_seam}
use Rattle.std.proofs.Math.ListN.{length-append, get_or-append}
use Rattle.std.proofs.lemmas.Nat.{pow_pos}
use Rattle.std.proofs.lemmas.Bool.{lt-ltb}
use Rattle.std.proofs.lemmas.Simd.{map-map}
use Rattle.std.proofs.lemmas.List.FromFn.{length-map-range_with_len, get_or-map-range_with_len}
use Rattle.std.specs.List.{range_with_len}
use Rattle.field_laws.specs.Ring.{Ring, RingLaws, RootLaws, power}
use Rattle.field_laws.specs.Polynomial.{eval, add_polynomials}
use Rattle.field_laws.specs.Interpolation.{coefficient, Interpolates}
use Rattle.field_laws.proofs.Interpolation.{Roots, roots_at, interpolation_exact, interpolation_only}
use Rattle.field_laws.proofs.Polynomials.{eval-add, eval-push_nought, get_or-add, map-add, drop-add}
use Rattle.field_laws.proofs.Interpolation.{interpolation-add}
use Rattle.flp_circuits.specs.Shape.{quadratic_at, Shape, ShapeLaws, gadget, wires_of, results, IsValid}
use Rattle.flp_proof.proofs.Orders.{wire_log_fits}
use Rattle.flp_proof.specs.Proof.{wire_log, inverse_root, interpolated, wire_value, wire_values, wire, wires_at, gadget_polynomial, proof_of, call_results, query_of, Accepts}
use Rattle.flp_proof.proofs.Gadget.{quadratic_polynomial, padded, length-quadratic, eval-quadratic, eval-padded, length-padded}

-- maps over a range agree where the functions do
pub same_on_range : {X : Type 0} (f g : ℕ → X) (a n : ℕ) → ((i : ℕ) → a ≤ i → i < a + n → f i ≡ g i) → map f (range_with_len a n) ≡ map g (range_with_len a n)
same_on_range f g a zero h = refl
same_on_range f g a (suc n) h =
    ap (λ x. x ∷ map f (range_with_len (a + 1) n)) (h a (omega arith) (omega arith))
    ∙ ap (λ xs. g a ∷ xs) (same_on_range f g (a + 1) n (λ i low high. h i (omega arith) (omega arith)))

get_or_map_any : {X Y : Type 0} (f : X → Y) (d : X) (xs : List X) (k : ℕ) → get_or (map f xs) k (f d) ≡ f (get_or xs k d)
get_or_map_any f d [] k = refl
get_or_map_any f d (x ∷ xs) zero = refl
get_or_map_any f d (x ∷ xs) (suc k) = get_or_map_any f d xs k

length_map_any : {X Y : Type 0} (f : X → List Y) (n : ℕ) (xs : List X) (k : ℕ) → ((x : X) → length (f x) ≤ n) → length (get_or (map f xs) k []) ≤ n
length_map_any f n [] k h = omega arith
length_map_any f n (x ∷ xs) zero h = h x
length_map_any f n (x ∷ xs) (suc k) h = length_map_any f n xs k h

module _ {F : Type 0} {ring : Ring F} (laws : RingLaws ring) (half : F) (root : ℕ → F) (halves : ring.add half half ≡ ring.unit) (roots : RootLaws ring 16 root) (c : Shape F) (keeps : ShapeLaws ring c) where
  log : ℕ
  log = wire_log c.calls

  eval-none : (t : F) → eval ring [] t ≡ ring.nought
  unfolding eval
  eval-none t = refl

  roots_here : (l : ℕ) → l ≤ 16 → Roots ring half (root l) (inverse_root ring half root l) l
  roots_here l few = roots_at laws half 16 root l halves roots few

  -- a wire polynomial is the one with its values
  pub wire_interpolates : (x seeds : List F) (j : ℕ) → Interpolates ring (root (wire_log c.calls)) (wire_values ring half root c x (get_or seeds j ring.nought) j) (wire ring half root c x seeds j)
  wire_interpolates x seeds j =
      let l : ℕ = wire_log c.calls in
      let fits = wire_log_fits c.calls keeps.few_calls in
      interpolation_exact laws half (root l) (inverse_root ring half root l) l (wire_values ring half root c x (get_or seeds j ring.nought) j) (roots_here l (omega (arith, fits.1)))
      (length-map-range_with_len (wire_value ring half root c x (get_or seeds j ring.nought) j) 0 (2 ^ l))

  -- its values at the powers of the root
  pub wire_meets : (x seeds : List F) (j k : ℕ) → k < 2 ^ wire_log c.calls → eval ring (wire ring half root c x seeds j) (power ring (root (wire_log c.calls)) k) ≡ wire_value ring half root c x (get_or seeds j ring.nought) j k
  wire_meets x seeds j k small =
      let f : ℕ → F = wire_value ring half root c x (get_or seeds j ring.nought) j in
      (wire_interpolates x seeds j).value k (omega (arith, length-map-range_with_len f 0 (2 ^ wire_log c.calls)))
      ∙ get_or-map-range_with_len f 0 (2 ^ wire_log c.calls) k k ring.nought small (omega arith)

  -- wire k, or no coefficient where there is none
  wire_or : List F → List F → ℕ → List F
  wire_or x seeds k = get_or (map (wire ring half root c x seeds) (range_with_len 0 c.arity)) k []

  wires-at_k : (x seeds : List F) (t : F) (k : ℕ) → get_or (wires_at ring half root c x seeds t) k ring.nought ≡ eval ring (wire_or x seeds k) t
  unfolding wire_or
  wires-at_k x seeds t k =
      ap (λ xs. get_or xs k ring.nought) (sym (map-map (λ w. eval ring w t) (wire ring half root c x seeds) (range_with_len 0 c.arity)))
      ∙ ap (get_or (map (λ w. eval ring w t) (map (wire ring half root c x seeds) (range_with_len 0 c.arity))) k) (sym (eval-none t))
      ∙ get_or_map_any (λ w. eval ring w t) [] (map (wire ring half root c x seeds) (range_with_len 0 c.arity)) k

  gadget_of_wires : (x seeds : List F) (t : F) → gadget ring c (wires_at ring half root c x seeds t) ≡ quadratic_at ring c.form (eval ring (wire_or x seeds 0) t) (eval ring (wire_or x seeds 1) t)
  gadget_of_wires x seeds t =
      ap (λ a. quadratic_at ring c.form a (get_or (wires_at ring half root c x seeds t) 1 ring.nought)) (wires-at_k x seeds t 0)
      ∙ ap (quadratic_at ring c.form (eval ring (wire_or x seeds 0) t)) (wires-at_k x seeds t 1)

  wire_or_short : (x seeds : List F) (k : ℕ) → length (wire_or x seeds k) ≤ 2 ^ wire_log c.calls
  unfolding wire_or
  wire_or_short x seeds k = length_map_any (wire ring half root c x seeds) (2 ^ wire_log c.calls) (range_with_len 0 c.arity) k
      (λ j. omega (arith, length-map-range_with_len (coefficient ring half (inverse_root ring half root (wire_log c.calls)) (wire_log c.calls) (wire_values ring half root c x (get_or seeds j ring.nought) j)) 0 (2 ^ wire_log c.calls)))

  whole_gadget : List F → List F → List F
  whole_gadget x seeds = padded ring (2 ^ (wire_log c.calls + 1) - 1) (quadratic_polynomial ring c.form (wire_or x seeds 0) (wire_or x seeds 1))

  length-whole : (x seeds : List F) → length (whole_gadget x seeds) ≡ 2 ^ (wire_log c.calls + 1) - 1
  unfolding whole_gadget
  length-whole x seeds =
      let l : ℕ = wire_log c.calls in
      let q : List F = quadratic_polynomial ring c.form (wire_or x seeds 0) (wire_or x seeds 1) in
      let bound : length q + 1 ≤ 2 * 2 ^ l = length-quadratic ring c.form (wire_or x seeds 0) (wire_or x seeds 1) (2 ^ l) (omega (arith, pow_pos l)) (wire_or_short x seeds 0) (wire_or_short x seeds 1) in
      length-padded laws (2 ^ (l + 1) - 1) q (omega (arith, twice l))
    where
      twice : (l : ℕ) → 2 ^ (l + 1) ≡ 2 * 2 ^ l
      twice l = ap (λ k. 2 ^ k) (let e : l + 1 ≡ suc l = omega arith in e) ∙ pow-suc 2 l ∙ (let e : 2 ^ l * 2 ≡ 2 * 2 ^ l = omega arith in e)

  eval-whole : (x seeds : List F) (t : F) → eval ring (whole_gadget x seeds) t ≡ gadget ring c (wires_at ring half root c x seeds t)
  unfolding whole_gadget
  eval-whole x seeds t =
      eval-padded laws (2 ^ (wire_log c.calls + 1) - 1) (quadratic_polynomial ring c.form (wire_or x seeds 0) (wire_or x seeds 1)) t
      ∙ eval-quadratic laws c.form (wire_or x seeds 0) (wire_or x seeds 1) t ∙ sym (gadget_of_wires x seeds t)

  gadget_is : (x seeds : List F) → gadget_polynomial ring half root c x seeds ≡ whole_gadget x seeds
  unfolding gadget_polynomial
  gadget_is x seeds =
      let l : ℕ = wire_log c.calls + 1 in
      let fits = wire_log_fits c.calls keeps.few_calls in
      let f : ℕ → F = λ k. gadget ring c (wires_at ring half root c x seeds (power ring (root l) k)) in
      let values : List F = map f (range_with_len 0 (2 ^ l)) in
      let size : length values ≡ 2 ^ l = length-map-range_with_len f 0 (2 ^ l) in
      let w : List F = whole_gadget x seeds in
      let w_size : length w ≡ 2 ^ l - 1 = length-whole x seeds in
      let meets : Interpolates ring (root l) values (w ++ ring.nought ∷ []) = record {
        size = length-append w (ring.nought ∷ []) ∙ (let e : length w + 1 ≡ length values = omega (arith, w_size, size, pow_pos l) in e);
        value = λ k small. eval-push_nought laws w (power ring (root l) k) ∙ eval-whole x seeds (power ring (root l) k) ∙ sym (get_or-map-range_with_len f 0 (2 ^ l) k k ring.nought (omega (arith, size)) (omega arith));
      } in
      ap (take (2 ^ l - 1)) (sym (interpolation_only laws half (root l) (inverse_root ring half root l) l values (w ++ ring.nought ∷ []) (roots_here l (omega (arith, fits.1))) size meets))
      ∙ ap (λ n. take n (w ++ ring.nought ∷ [])) (sym w_size) ∙ take-append_seam w (ring.nought ∷ [])

  -- the gadget polynomial is the gadget of the wire polynomials, at every point
  pub gadget_polynomial-at : (x seeds : List F) (t : F) → eval ring (gadget_polynomial ring half root c x seeds) t ≡ gadget ring c (wires_at ring half root c x seeds t)
  gadget_polynomial-at x seeds t = ap (λ g. eval ring g t) (gadget_is x seeds) ∙ eval-whole x seeds t

  pub length-gadget_polynomial : (x seeds : List F) → length (gadget_polynomial ring half root c x seeds) ≡ 2 ^ (wire_log c.calls + 1) - 1
  length-gadget_polynomial x seeds = ap length (gadget_is x seeds) ∙ length-whole x seeds

  wires-at_call : (x seeds : List F) (i : ℕ) → i < c.calls → wires_at ring half root c x seeds (power ring (root (wire_log c.calls)) (i + 1)) ≡ wires_of c x (i + 1)
  wires-at_call x seeds i small =
      let fits = wire_log_fits c.calls keeps.few_calls in
      same_on_range (λ j. eval ring (wire ring half root c x seeds j) (power ring (root (wire_log c.calls)) (i + 1))) (λ j. c.input x (i + 1) j) 0 c.arity
      (λ j low high. wire_meets x seeds j (i + 1) (omega (arith, fits.0)) ∙ ap (wire_value ring half root c x (get_or seeds j ring.nought) j) (let e : i + 1 ≡ suc i = omega arith in e)
      ∙ ap (λ b. cond b (c.input x (suc i) j) ring.nought) (lt-ltb i c.calls small) ∙ ap (λ k. c.input x k j) (let e : suc i ≡ i + 1 = omega arith in e))

  pub call_results-are : (x seeds : List F) → call_results ring half root c (gadget_polynomial ring half root c x seeds) ≡ results ring c x
  call_results-are x seeds =
      same_on_range _ (λ i. gadget ring c (wires_of c x (i + 1))) 0 c.calls
      (λ i low high. gadget_polynomial-at x seeds (power ring (root (wire_log c.calls)) (i + 1)) ∙ ap (gadget ring c) (wires-at_call x seeds i (omega arith)))

  -- the wires see the seeds at the front alone
  wires-at_front : (x seeds g : List F) (t : F) → length seeds ≡ c.arity → wires_at ring half root c x (seeds ++ g) t ≡ wires_at ring half root c x seeds t
  wires-at_front x seeds g t size =
      same_on_range (λ j. eval ring (wire ring half root c x (seeds ++ g) j) t) (λ j. eval ring (wire ring half root c x seeds j) t) 0 c.arity
      (λ j low high. ap (λ s. eval ring (interpolated ring half root (wire_log c.calls) (wire_values ring half root c x s j)) t) (get_or-append seeds g ring.nought j (omega arith)))

  -- the query of a whole input and its proof
  pub query_whole : (x seeds joint : List F) (one t : F) → length seeds ≡ c.arity
      → query_of ring half root c one x (proof_of ring half root c x seeds) joint t
      ≡ c.validity one x joint (results ring c x) ∷ (wires_at ring half root c x seeds t ++ (gadget ring c (wires_at ring half root c x seeds t) ∷ []))
  unfolding query_of
  query_whole x seeds joint one t size =
      let g : List F = gadget_polynomial ring half root c x seeds in
      let rest : drop c.arity (seeds ++ g) ≡ g = ap (λ n. drop n (seeds ++ g)) (sym size) ∙ drop-append_seam seeds g in
      ap (λ h. c.validity one x joint (call_results ring half root c h) ∷ (wires_at ring half root c x (seeds ++ g) t ++ (eval ring h t ∷ []))) rest
      ∙ ap (λ r. c.validity one x joint r ∷ (wires_at ring half root c x (seeds ++ g) t ++ (eval ring g t ∷ []))) (call_results-are x seeds)
      ∙ ap (λ ws. c.validity one x joint (results ring c x) ∷ (ws ++ (eval ring g t ∷ []))) (wires-at_front x seeds g t size)
      ∙ ap (λ a. c.validity one x joint (results ring c x) ∷ (wires_at ring half root c x seeds t ++ (a ∷ []))) (gadget_polynomial-at x seeds t)

  pub accepts_form : (v a : F) (ws : List F) → v ≡ ring.nought → length ws ≡ c.arity → gadget ring c ws ≡ a → Accepts ring c (v ∷ (ws ++ (a ∷ [])))
  accepts_form v a ws zero_first size same = (
    zero_first,
    ap (λ n. gadget ring c (take n (ws ++ (a ∷ [])))) (sym size) ∙ ap (gadget ring c) (take-append_seam ws (a ∷ [])) ∙ same
        ∙ sym (ap (λ n. get_or (v ∷ (ws ++ (a ∷ []))) n ring.nought) (let e : c.arity + 1 ≡ suc (length ws) = omega arith in e) ∙ get_or-append_seam ws a [] ring.nought),
  )

  pub whole_accepted : (x seeds joint : List F) (t : F) → length seeds ≡ c.arity → IsValid ring c x joint → Accepts ring c (query_of ring half root c ring.unit x (proof_of ring half root c x seeds) joint t)
  whole_accepted x seeds joint t size valid =
      let ws : List F = wires_at ring half root c x seeds t in
      subst (Accepts ring c) (sym (query_whole x seeds joint ring.unit t size))
      (accepts_form (c.validity ring.unit x joint (results ring c x)) (gadget ring c ws) ws valid (length-map-range_with_len (λ j. eval ring (wire ring half root c x seeds j) t) 0 c.arity) refl)

  wire_value-add : (x y : List F) (s u : F) (j k : ℕ) → length x ≡ c.input_len → length y ≡ c.input_len
      → wire_value ring half root c (add_polynomials ring x y) (ring.add s u) j k ≡ ring.add (wire_value ring half root c x s j k) (wire_value ring half root c y u j k)
  wire_value-add x y s u j zero hx hy = refl
  wire_value-add x y s u j (suc i) hx hy =
      elim (ltb i c.calls) as (λ b. cond b (c.input (add_polynomials ring x y) (suc i) j) ring.nought ≡ ring.add (cond b (c.input x (suc i) j) ring.nought) (cond b (c.input y (suc i) j) ring.nought))
      [ true ↦ keeps.input-add x y (suc i) j hx hy | false ↦ sym (laws.add-nought ring.nought) ]

  -- a wire of a sum is the sum of the wires
  wire-add : (x y p q : List F) (j : ℕ) → length x ≡ c.input_len → length y ≡ c.input_len
      → wire ring half root c (add_polynomials ring x y) (add_polynomials ring p q) j ≡ add_polynomials ring (wire ring half root c x p j) (wire ring half root c y q j)
  wire-add x y p q j hx hy =
      let l : ℕ = wire_log c.calls in
      let s : F = get_or p j ring.nought in
      let u : F = get_or q j ring.nought in
      ap (λ a. interpolated ring half root l (wire_values ring half root c (add_polynomials ring x y) a j)) (get_or-add laws p q j)
      ∙ ap (interpolated ring half root l)
      (same_on_range (wire_value ring half root c (add_polynomials ring x y) (ring.add s u) j) (λ k. ring.add (wire_value ring half root c x s j k) (wire_value ring half root c y u j k)) 0 (2 ^ l) (λ k low high. wire_value-add x y s u j k hx hy)
      ∙ map-add laws (wire_value ring half root c x s j) (wire_value ring half root c y u j) (range_with_len 0 (2 ^ l)))
      ∙ interpolation-add laws half (inverse_root ring half root l) l (wire_values ring half root c x s j) (wire_values ring half root c y u j)

  wires_at-add : (x y p q : List F) (t : F) → length x ≡ c.input_len → length y ≡ c.input_len
      → wires_at ring half root c (add_polynomials ring x y) (add_polynomials ring p q) t ≡ add_polynomials ring (wires_at ring half root c x p t) (wires_at ring half root c y q t)
  wires_at-add x y p q t hx hy =
      same_on_range _ (λ j. ring.add (eval ring (wire ring half root c x p j) t) (eval ring (wire ring half root c y q j) t)) 0 c.arity
      (λ j low high. ap (λ w. eval ring w t) (wire-add x y p q j hx hy) ∙ eval-add laws (wire ring half root c x p j) (wire ring half root c y q j) t)
      ∙ map-add laws (λ j. eval ring (wire ring half root c x p j) t) (λ j. eval ring (wire ring half root c y q j) t) (range_with_len 0 c.arity)

  call_results-add : (g h : List F) → call_results ring half root c (add_polynomials ring g h) ≡ add_polynomials ring (call_results ring half root c g) (call_results ring half root c h)
  call_results-add g h =
      let at : ℕ → F = λ i. power ring (root (wire_log c.calls)) (i + 1) in
      same_on_range _ (λ i. ring.add (eval ring g (at i)) (eval ring h (at i))) 0 c.calls (λ i low high. eval-add laws g h (at i))
      ∙ map-add laws (λ i. eval ring g (at i)) (λ i. eval ring h (at i)) (range_with_len 0 c.calls)

  push-add : (v w : List F) (a b : F) → length v ≡ length w → add_polynomials ring (v ++ (a ∷ [])) (w ++ (b ∷ [])) ≡ add_polynomials ring v w ++ (ring.add a b ∷ [])
  unfolding add_polynomials
  push-add [] [] a b e = refl
  push-add [] (y ∷ w) a b e = absurd (omega arith)
  push-add (x ∷ v) [] a b e = absurd (omega arith)
  push-add (x ∷ v) (y ∷ w) a b e = ap (λ l. ring.add x y ∷ l) (push-add v w a b (omega arith))

  cons-add : (a b : F) (v w : List F) → add_polynomials ring (a ∷ v) (b ∷ w) ≡ ring.add a b ∷ add_polynomials ring v w
  unfolding add_polynomials
  cons-add a b v w = refl

  -- the query of a sum is the sum of the queries
  pub query-add : (o u : F) (x y p q joint : List F) (t : F) → length x ≡ c.input_len → length y ≡ c.input_len → length joint ≡ c.joint_len
      → query_of ring half root c (ring.add o u) (add_polynomials ring x y) (add_polynomials ring p q) joint t
      ≡ add_polynomials ring (query_of ring half root c o x p joint t) (query_of ring half root c u y q joint t)
  unfolding query_of
  query-add o u x y p q joint t hx hy hj =
      let xy : List F = add_polynomials ring x y in
      let pq : List F = add_polynomials ring p q in
      let g : List F = drop c.arity p in
      let h : List F = drop c.arity q in
      let ws : List F = wires_at ring half root c x p t in
      let vs : List F = wires_at ring half root c y q t in
      let r : List F = call_results ring half root c g in
      let s : List F = call_results ring half root c h in
      let r_size : length r ≡ c.calls = length-map-range_with_len (λ i. eval ring g (power ring (root (wire_log c.calls)) (i + 1))) 0 c.calls in
      let s_size : length s ≡ c.calls = length-map-range_with_len (λ i. eval ring h (power ring (root (wire_log c.calls)) (i + 1))) 0 c.calls in
      let w_size : length ws ≡ c.arity = length-map-range_with_len (λ j. eval ring (wire ring half root c x p j) t) 0 c.arity in
      let v_size : length vs ≡ c.arity = length-map-range_with_len (λ j. eval ring (wire ring half root c y q j) t) 0 c.arity in
      ap (λ d. c.validity (ring.add o u) xy joint (call_results ring half root c d) ∷ (wires_at ring half root c xy pq t ++ (eval ring d t ∷ []))) (drop-add ring c.arity p q)
      ∙ ap (λ e. c.validity (ring.add o u) xy joint e ∷ (wires_at ring half root c xy pq t ++ (eval ring (add_polynomials ring g h) t ∷ []))) (call_results-add g h)
      ∙ ap (λ e. e ∷ (wires_at ring half root c xy pq t ++ (eval ring (add_polynomials ring g h) t ∷ []))) (keeps.validity-add o u x y joint r s hx hy hj r_size s_size)
      ∙ ap (λ e. ring.add (c.validity o x joint r) (c.validity u y joint s) ∷ (e ++ (eval ring (add_polynomials ring g h) t ∷ []))) (wires_at-add x y p q t hx hy)
      ∙ ap (λ e. ring.add (c.validity o x joint r) (c.validity u y joint s) ∷ (add_polynomials ring ws vs ++ (e ∷ []))) (eval-add laws g h t)
      ∙ ap (λ e. ring.add (c.validity o x joint r) (c.validity u y joint s) ∷ e) (sym (push-add ws vs (eval ring g t) (eval ring h t) (w_size ∙ sym v_size)))
      ∙ sym (cons-add (c.validity o x joint r) (c.validity u y joint s) (ws ++ (eval ring g t ∷ [])) (vs ++ (eval ring h t ∷ [])))

  -- the queries of the two shares add to that of the whole
  query_halves : (x y p q seeds joint : List F) (t : F) → length x ≡ c.input_len → length y ≡ c.input_len → length joint ≡ c.joint_len
      → add_polynomials ring p q ≡ proof_of ring half root c (add_polynomials ring x y) seeds
      → query_of ring half root c ring.unit (add_polynomials ring x y) (proof_of ring half root c (add_polynomials ring x y) seeds) joint t
      ≡ add_polynomials ring (query_of ring half root c half x p joint t) (query_of ring half root c half y q joint t)
  query_halves x y p q seeds joint t hx hy hj shares =
      let xy : List F = add_polynomials ring x y in
      ap (λ o. query_of ring half root c o xy (proof_of ring half root c xy seeds) joint t) (sym halves)
      ∙ ap (λ π. query_of ring half root c (ring.add half half) xy π joint t) (sym shares)
      ∙ query-add half half x y p q joint t hx hy hj

  -- the proof of a valid input is accepted on the sum of the two shares' queries
  pub complete : (x y p q seeds joint : List F) (t : F) → length x ≡ c.input_len → length y ≡ c.input_len → length joint ≡ c.joint_len → length seeds ≡ c.arity
      → add_polynomials ring p q ≡ proof_of ring half root c (add_polynomials ring x y) seeds
      → IsValid ring c (add_polynomials ring x y) joint
      → Accepts ring c (add_polynomials ring (query_of ring half root c half x p joint t) (query_of ring half root c half y q joint t))
  complete x y p q seeds joint t hx hy hj hs shares valid =
      subst (Accepts ring c) (query_halves x y p q seeds joint t hx hy hj shares) (whole_accepted (add_polynomials ring x y) seeds joint t hs valid)

  -- and where it is accepted, the input is valid: the first entry is the whole's validity value
  pub only_valid : (x y p q seeds joint : List F) (t : F) → length x ≡ c.input_len → length y ≡ c.input_len → length joint ≡ c.joint_len → length seeds ≡ c.arity
      → add_polynomials ring p q ≡ proof_of ring half root c (add_polynomials ring x y) seeds
      → Accepts ring c (add_polynomials ring (query_of ring half root c half x p joint t) (query_of ring half root c half y q joint t))
      → IsValid ring c (add_polynomials ring x y) joint
  only_valid x y p q seeds joint t hx hy hj hs shares accepted =
      ap (λ v. get_or v 0 ring.nought) (sym (query_whole (add_polynomials ring x y) seeds joint ring.unit t hs) ∙ query_halves x y p q seeds joint t hx hy hj shares)
      ∙ accepted.0
