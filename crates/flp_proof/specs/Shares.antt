-- An input and a proof in two shares, and the points at which they are accepted.
use Rattle.std.specs.Prelude.{◌≡◌, ◌≢◌, ℕ, ◌+◌, ◌-◌, ◌*◌, ◌^◌, ◌<◌, List, drop, length, replicate, slice_index_or}
use Rattle.field_laws.specs.Ring.{Ring}
use Rattle.field_laws.specs.Polynomial.{eval, add_polynomials, scale}
use Rattle.flp_circuits.specs.Shape.{Shape}
use Rattle.flp_proof.specs.Proof.{wire_log, proof_len, gadget_polynomial, proof_of, query_of, Accepts}

-- 2 (P - 1), the degree of the gadget polynomial
abbrev pub gadget_degree : {F : Type 0} → Shape F → ℕ
gadget_degree c = 2 * (2 ^ wire_log c.calls - 1)

-- two shares x and y of an input and p and q of any proof, and the joint randomness of both, by their sizes
pub record AreShares {F : Type 0} (c : Shape F) (x y p q joint : List F) : Type 0 where
  pub first_input : length x ≡ c.input_len
  pub second_input : length y ≡ c.input_len
  pub first_proof : length p ≡ proof_len c
  pub second_proof : length q ≡ proof_len c
  pub joint_randomness : length joint ≡ c.joint_len

-- of an input and of its own proof with these wire seeds
pub record AreOwnShares {F : Type 0} (ring : Ring F) (half : F) (root : ℕ → F) (c : Shape F) (x y p q seeds joint : List F) : Type 0 where
  pub first_input : length x ≡ c.input_len
  pub second_input : length y ≡ c.input_len
  pub wire_seeds : length seeds ≡ c.arity
  pub own_proof : add_polynomials ring p q ≡ proof_of ring half root c (add_polynomials ring x y) seeds
  pub joint_randomness : length joint ≡ c.joint_len

-- the polynomial of n + 1 coefficients isn't nought, but is so at t
pub record HasRoot {F : Type 0} (ring : Ring F) (n : ℕ) (polynomial : List F) (t : F) : Type 0 where
  pub size : length polynomial ≡ n + 1
  pub some : polynomial ≢ replicate (n + 1) ring.nought
  pub root : eval ring polynomial t ≡ ring.nought

module _ {F : Type 0} (ring : Ring F) (half : F) (root : ℕ → F) (c : Shape F) where
  -- what a proof is off by, which is nought for the input's own: the gadget of the wire polynomials with this proof's seeds, minus this proof's gadget polynomial
  abbrev pub defect : List F → List F → List F
  defect x proof = add_polynomials ring (gadget_polynomial ring half root c x proof) (scale ring (ring.neg ring.unit) (drop c.arity proof))

  -- the sum of the two shares' queries at t, each with half of one
  abbrev pub verifier : List F → List F → List F → List F → List F → F → List F
  verifier x y p q joint t = add_polynomials ring (query_of ring half root c half x p joint t) (query_of ring half root c half y q joint t)

  -- it is accepted
  abbrev pub AcceptsAt : List F → List F → List F → List F → List F → F → Type 0
  AcceptsAt x y p q joint t = Accepts ring c (verifier x y p q joint t)

  -- and so at each of these points
  abbrev pub AcceptsAtEach : List F → List F → List F → List F → List F → List F → Type 0
  AcceptsAtEach x y p q joint ts = (i : ℕ) → i < length ts → AcceptsAt x y p q joint (slice_index_or ts i ring.nought)
