-- The proof that an input is valid, the query of a share, and the decision.
use Rattle.std.specs.Prelude.{◌≡◌, ℕ, ◌+◌, ◌-◌, ◌*◌, ◌^◌, List, [], ◌∷◌, ◌++◌, map, take, drop, nat_lt, nat_le, if◌then◌else◌, slice_index_or}
use Rattle.std.specs.List.{range_with_len}
use Rattle.std.proofs.Common.{zero, suc}
use Rattle.field_laws.specs.Ring.{Ring, power}
use Rattle.field_laws.specs.Polynomial.{eval}
use Rattle.field_laws.specs.Interpolation.{interpolation}
use Rattle.flp_circuits.specs.Shape.{Shape, gadget}

-- the first l from this one on with n at most 2 ^ l, within the given number of tries
unfoldable pub log_from : ℕ → ℕ → ℕ → ℕ
log_from zero l n = l
log_from (suc tries) l n = if nat_le n (2 ^ l) then l else log_from tries (l + 1) n

-- the exponent of P, which is the least power of two that is at least calls + 1
unfoldable pub wire_log : ℕ → ℕ
wire_log calls = log_from 11 0 (calls + 1)

-- how many elements a proof has: the seeds, and the coefficients of a polynomial of degree 2 (P - 1)
abbrev pub proof_len : {F : Type 0} → Shape F → ℕ
proof_len c = c.arity + (2 * (2 ^ wire_log c.calls - 1) + 1)

module _ {F : Type 0} (ring : Ring F) (half : F) (root : ℕ → F) where
  -- the inverse of the root of order 2 ^ log
  abbrev pub inverse_root : ℕ → F
  inverse_root log = power ring (root log) (2 ^ log - 1)

  -- the polynomial with these 2 ^ log values at the powers of the root of that order
  abbrev pub interpolated : ℕ → List F → List F
  interpolated log values = interpolation ring half (inverse_root log) log values

  -- value k of wire j: its seed at 0, what it carries in call k, and nought after the last call
  abbrev pub wire_value : Shape F → List F → F → ℕ → ℕ → F
  wire_value c x seed j zero = seed
  wire_value c x seed j (suc i) = if nat_lt i c.calls then c.input x (suc i) j else ring.nought

  -- the P values of wire j
  abbrev pub wire_values : Shape F → List F → F → ℕ → List F
  wire_values c x seed j = map (wire_value c x seed j) (range_with_len 0 (2 ^ wire_log c.calls))

  -- wire polynomial j: the polynomial of degree below P with its values at the powers of the root of order P
  abbrev pub wire : Shape F → List F → List F → ℕ → List F
  wire c x seeds j = interpolated (wire_log c.calls) (wire_values c x (slice_index_or seeds j ring.nought) j)

  -- the wire polynomials at t
  abbrev pub wires_at : Shape F → List F → List F → F → List F
  wires_at c x seeds t = map (λ j. eval ring (wire c x seeds j) t) (range_with_len 0 c.arity)

  -- the gadget of the wire polynomials, with 2 (P - 1) + 1 coefficients: by its values at the powers of the root of order 2 P
  unfoldable pub gadget_polynomial : Shape F → List F → List F → List F
  gadget_polynomial c x seeds =
      let log : ℕ = wire_log c.calls + 1 in
      take (2 ^ log - 1) (interpolated log (map (λ k. gadget ring c (wires_at c x seeds (power ring (root log) k))) (range_with_len 0 (2 ^ log))))

  -- the proof of an input: the wire seeds, then the gadget polynomial
  abbrev pub proof_of : Shape F → List F → List F → List F
  proof_of c x seeds = seeds ++ gadget_polynomial c x seeds

  -- a share's results of the calls: its gadget polynomial at the powers 1 to calls of the root of order P
  abbrev pub call_results : Shape F → List F → List F
  call_results c g = map (λ i. eval ring g (power ring (root (wire_log c.calls)) (i + 1))) (range_with_len 0 c.calls)

  -- the verifier share of a share at t: the validity value, the wire polynomials at t, the gadget polynomial at t
  unfoldable pub query_of : Shape F → F → List F → List F → List F → F → List F
  query_of c one x proof joint t =
      c.validity one x joint (call_results c (drop c.arity proof))
      ∷ (wires_at c x proof t ++ (eval ring (drop c.arity proof) t ∷ []))

-- a verifier is accepted: its validity value is nought, and the gadget of its wires is its last element
abbrev pub Accepts : {F : Type 0} → Ring F → Shape F → List F → Type 0
Accepts ring c v = (slice_index_or v 0 ring.nought ≡ ring.nought) × (gadget ring c (take c.arity (drop 1 v)) ≡ slice_index_or v (c.arity + 1) ring.nought)
