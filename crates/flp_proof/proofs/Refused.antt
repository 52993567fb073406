-- Where an input isn't valid, the points at which a proof is accepted are roots of one polynomial that isn't nought.
use Rattle.std.proofs.Common.{◌≡◌, ◌≢◌, ℕ, suc, ◌+◌, ◌-◌, ◌<◌, ◌≤◌, max, List, [], ◌∷◌, ◌++◌, sym, ap, ◌∙◌, arith, subst, get_or, length, length-drop, take, drop}
use Rattle.std.specs.Prelude.{replicate}
use Rattle.std.proofs.Math.Seq.{take-append_seam, get_or-append_seam}
use Rattle.std.proofs.lemmas.List.FromFn.{length-map-range_with_len}
use Rattle.field_laws.specs.Ring.{Ring, RingLaws, RootLaws, power, minus}
use Rattle.field_laws.specs.Primes.{NoDivisors}
use Rattle.field_laws.specs.Points.{AreDifferent}
use Rattle.field_laws.specs.Polynomial.{eval, add_polynomials, scale}
use Rattle.field_laws.proofs.Solve.{neg-by_unit}
use Rattle.field_laws.proofs.Polynomials.{eval-add, eval-scale, length-add, length-scale}
use Rattle.field_laws.proofs.RootCount.{few_roots, eval-noughts, minus-nought}
use Rattle.flp_circuits.specs.Shape.{Shape, ShapeLaws, gadget, results, IsInvalid}
use Rattle.flp_proof.specs.Proof.{wire_log, proof_len, wires_at, wire, gadget_polynomial, call_results, query_of, Accepts}
use Rattle.flp_proof.specs.Shares.{gadget_degree, AreShares, HasRoot, defect, AcceptsAt, AcceptsAtEach}
use Rattle.flp_proof.proofs.Orders.{twice_order}
use Rattle.flp_proof.proofs.Complete.{same_on_range, call_results-are, gadget_polynomial-at, length-gadget_polynomial, query-add}

module _ {F : Type 0} {ring : Ring F} (laws : RingLaws ring) (half : F) (root : ℕ → F) (halves : ring.add half half ≡ ring.unit) (roots : RootLaws ring 16 root) (c : Shape F) (keeps : ShapeLaws ring c) where
  accepts_parts : (v a : F) (ws : List F) → length ws ≡ c.arity → Accepts ring c (v ∷ (ws ++ (a ∷ []))) → (v ≡ ring.nought) × (gadget ring c ws ≡ a)
  accepts_parts v a ws size accepted = (
    accepted.0,
    ap (gadget ring c) (sym (take-append_seam ws (a ∷ []))) ∙ ap (λ n. gadget ring c (take n (ws ++ (a ∷ [])))) size ∙ accepted.1
        ∙ ap (λ n. get_or (v ∷ (ws ++ (a ∷ []))) n ring.nought) (let e : c.arity + 1 ≡ suc (length ws) = omega arith in e) ∙ get_or-append_seam ws a [] ring.nought,
  )

  -- what acceptance of a whole input and proof says
  whole_parts : (x proof joint : List F) (t : F) → Accepts ring c (query_of ring half root c ring.unit x proof joint t)
      → (c.validity ring.unit x joint (call_results ring half root c (drop c.arity proof)) ≡ ring.nought) × (gadget ring c (wires_at ring half root c x proof t) ≡ eval ring (drop c.arity proof) t)
  unfolding query_of
  whole_parts x proof joint t accepted =
      accepts_parts (c.validity ring.unit x joint (call_results ring half root c (drop c.arity proof))) (eval ring (drop c.arity proof) t) (wires_at ring half root c x proof t)
      (length-map-range_with_len (λ j. eval ring (wire ring half root c x proof j) t) 0 c.arity) accepted

  eval-defect : (x proof : List F) (t : F) → eval ring (defect ring half root c x proof) t ≡ minus ring (gadget ring c (wires_at ring half root c x proof t)) (eval ring (drop c.arity proof) t)
  eval-defect x proof t =
      let g : List F = gadget_polynomial ring half root c x proof in
      let h : List F = drop c.arity proof in
      eval-add laws g (scale ring (ring.neg ring.unit) h) t
      ∙ ap (ring.add (eval ring g t)) (eval-scale laws (ring.neg ring.unit) h t ∙ sym (neg-by_unit laws [] (eval ring h t)))
      ∙ ap (λ a. minus ring a (eval ring h t)) (gadget_polynomial-at laws half root halves roots c keeps x proof t)

  -- an accepted point is a root
  root_where_accepted : (x proof joint : List F) (t : F) → Accepts ring c (query_of ring half root c ring.unit x proof joint t) → eval ring (defect ring half root c x proof) t ≡ ring.nought
  root_where_accepted x proof joint t accepted =
      eval-defect x proof t ∙ ap (λ a. minus ring a (eval ring (drop c.arity proof) t)) ((whole_parts x proof joint t accepted).1) ∙ laws.add-neg _

  -- where it is nought, the proof's results of the calls are the input's own
  results_where_nought : (x proof : List F) (n : ℕ) → defect ring half root c x proof ≡ replicate n ring.nought → call_results ring half root c (drop c.arity proof) ≡ results ring c x
  results_where_nought x proof n none =
      same_on_range _ (λ i. eval ring (gadget_polynomial ring half root c x proof) (power ring (root (wire_log c.calls)) (i + 1))) 0 c.calls
      (λ i low high.
      let t : F = power ring (root (wire_log c.calls)) (i + 1) in
      sym (gadget_polynomial-at laws half root halves roots c keeps x proof t
      ∙ minus-nought laws _ (eval ring (drop c.arity proof) t) (sym (eval-defect x proof t) ∙ ap (λ p. eval ring p t) none ∙ eval-noughts laws n t)))
      ∙ call_results-are laws half root halves roots c keeps x proof

  -- so it isn't nought, where the input isn't valid and a point is accepted
  pub defect_somewhere : (x proof joint : List F) (t : F) (n : ℕ) → IsInvalid ring c x joint → Accepts ring c (query_of ring half root c ring.unit x proof joint t) → defect ring half root c x proof ≢ replicate n ring.nought
  defect_somewhere x proof joint t n wrong accepted none =
      wrong (ap (c.validity ring.unit x joint) (sym (results_where_nought x proof n none)) ∙ (whole_parts x proof joint t accepted).0)

  pub length-defect : (x proof : List F) → length proof ≡ proof_len c → length (defect ring half root c x proof) ≡ gadget_degree c + 1
  length-defect x proof size =
      let g : List F = gadget_polynomial ring half root c x proof in
      let h : List F = drop c.arity proof in
      length-add ring g (scale ring (ring.neg ring.unit) h)
      ∙ (let e : max (length g) (length (scale ring (ring.neg ring.unit) h)) ≡ gadget_degree c + 1 =
      omega (arith, length-gadget_polynomial laws half root halves roots c keeps x proof, length-scale ring (ring.neg ring.unit) h, length-drop c.arity proof, twice_order (wire_log c.calls)) in e)

  -- the count, for a whole input and proof
  whole_refused : NoDivisors ring → (x proof joint ts : List F) → length proof ≡ proof_len c → IsInvalid ring c x joint → AreDifferent ring ts
      → ((i : ℕ) → i < length ts → Accepts ring c (query_of ring half root c ring.unit x proof joint (get_or ts i ring.nought))) → length ts < gadget_degree c + 1
  whole_refused whole x proof joint [] size wrong apart accepted = omega arith
  whole_refused whole x proof joint (t ∷ ts) size wrong apart accepted =
      let d : List F = defect ring half root c x proof in
      let few : length (t ∷ ts) < length d =
      few_roots laws whole d (t ∷ ts)
      (defect_somewhere x proof joint t (length d) wrong (accepted 0 (omega arith)))
      apart (λ i small. root_where_accepted x proof joint (get_or (t ∷ ts) i ring.nought) (accepted i small)) in
      omega (arith, length-defect x proof size)

  -- the queries of two shares add to that of the whole
  shares_add : (x y p q joint : List F) (t : F) → length x ≡ c.input_len → length y ≡ c.input_len → length joint ≡ c.joint_len
      → add_polynomials ring (query_of ring half root c half x p joint t) (query_of ring half root c half y q joint t)
      ≡ query_of ring half root c ring.unit (add_polynomials ring x y) (add_polynomials ring p q) joint t
  shares_add x y p q joint t hx hy hj =
      sym (query-add laws half root halves roots c keeps half half x y p q joint t hx hy hj)
      ∙ ap (λ o. query_of ring half root c o (add_polynomials ring x y) (add_polynomials ring p q) joint t) halves

  both_long : (p q : List F) → length p ≡ proof_len c → length q ≡ proof_len c → length (add_polynomials ring p q) ≡ proof_len c
  both_long p q hp hq = length-add ring p q ∙ (let e : max (length p) (length q) ≡ proof_len c = omega arith in e)

  -- an accepted point of two shares
  pub refused_root : (x y p q joint : List F) (t : F) → AreShares c x y p q joint → IsInvalid ring c (add_polynomials ring x y) joint
      → AcceptsAt ring half root c x y p q joint t → HasRoot ring (gadget_degree c) (defect ring half root c (add_polynomials ring x y) (add_polynomials ring p q)) t
  refused_root x y p q joint t shares wrong accepted =
      let whole = subst (Accepts ring c) (shares_add x y p q joint t shares.first_input shares.second_input shares.joint_randomness) accepted in record {
        size = length-defect (add_polynomials ring x y) (add_polynomials ring p q) (both_long p q shares.first_proof shares.second_proof);
        some = defect_somewhere (add_polynomials ring x y) (add_polynomials ring p q) joint t (gadget_degree c + 1) wrong whole;
        root = root_where_accepted (add_polynomials ring x y) (add_polynomials ring p q) joint t whole;
      }

  -- and their number
  pub refused_count : NoDivisors ring → (x y p q joint ts : List F) → AreShares c x y p q joint → IsInvalid ring c (add_polynomials ring x y) joint → AreDifferent ring ts
      → AcceptsAtEach ring half root c x y p q joint ts → length ts ≤ gadget_degree c
  refused_count whole x y p q joint ts shares wrong apart accepted =
      let few : length ts < gadget_degree c + 1 =
      whole_refused whole (add_polynomials ring x y) (add_polynomials ring p q) joint ts (both_long p q shares.first_proof shares.second_proof) wrong apart
      (λ i small. subst (Accepts ring c) (shares_add x y p q joint (get_or ts i ring.nought) shares.first_input shares.second_input shares.joint_randomness) (accepted i small)) in
      omega arith
