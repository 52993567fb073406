-- What a circuit computes, and the laws that it keeps.
use Rattle.std.specs.Prelude.{◌≡◌, ◌≢◌, ℕ, ◌+◌, ◌≤◌, List, map, length, Option, Some, slice_index_or}
use Rattle.std.specs.List.{range_with_len}
use Rattle.field_laws.specs.Ring.{Ring}
use Rattle.field_laws.specs.Polynomial.{add_polynomials, scale}

-- the coefficients of a polynomial of degree at most two in a and b
pub record Quadratic (F : Type 0) : Type 0 where
  pub constant : F
  pub first : F
  pub second : F
  pub first_first : F
  pub first_second : F
  pub second_second : F

-- its value at a and b
abbrev pub quadratic_at : {F : Type 0} → Ring F → Quadratic F → F → F → F
quadratic_at ring q a b =
    ring.add (ring.mul q.first_second (ring.mul a b))
    (ring.add (ring.mul q.first_first (ring.mul a a))
    (ring.add (ring.mul q.second_second (ring.mul b b))
    (ring.add (ring.mul q.first a) (ring.add (ring.mul q.second b) q.constant))))

-- a circuit, as numbers and functions; calls count from 1, wires and entries from 0
pub record Shape (F : Type 0) : Type 0 where
  -- the input of a measurement, which is a list of numbers; none where it isn't one of the kind
  pub encode : List ℕ → Option (List F)
  -- the out share of an input
  pub truncate : List F → List F
  pub input_len : ℕ
  pub out_len : ℕ
  pub joint_len : ℕ
  pub calls : ℕ
  pub arity : ℕ
  -- of an input, a call and a wire: what the wire carries in that call
  pub input : List F → ℕ → ℕ → F
  -- the gadget, as a polynomial in the first two wires
  pub form : Quadratic F
  -- of the value of one in this share, an input, the joint randomness and the results of the calls
  pub validity : F → List F → List F → List F → F

-- the gadget's value at a list of wires
abbrev pub gadget : {F : Type 0} → Ring F → Shape F → List F → F
gadget ring c wires = quadratic_at ring c.form (slice_index_or wires 0 ring.nought) (slice_index_or wires 1 ring.nought)

-- the wires of a call
abbrev pub wires_of : {F : Type 0} → Shape F → List F → ℕ → List F
wires_of c x call = map (λ j. c.input x call j) (range_with_len 0 c.arity)

-- the gadget's results on the wires of the calls, in order
abbrev pub results : {F : Type 0} → Ring F → Shape F → List F → List F
results ring c x = map (λ i. gadget ring c (wires_of c x (i + 1))) (range_with_len 0 c.calls)

-- the input keeps the circuit's rules, at this joint randomness
abbrev pub IsValid : {F : Type 0} → Ring F → Shape F → List F → List F → Type 0
IsValid ring c x joint = c.validity ring.unit x joint (results ring c x) ≡ ring.nought

-- it breaks them, at this joint randomness
abbrev pub IsInvalid : {F : Type 0} → Ring F → Shape F → List F → List F → Type 0
IsInvalid ring c x joint = c.validity ring.unit x joint (results ring c x) ≢ ring.nought

-- some measurement's encoding it is
abbrev pub IsEncoding : {F : Type 0} → Shape F → List F → Type 0
IsEncoding c x = (ms : List ℕ) × (c.encode ms ≡ Some x)

-- the sizes are within the limits, and wires and validity are linear
pub record ShapeLaws {F : Type 0} (ring : Ring F) (c : Shape F) : Type 0 where
  pub has_calls : 1 ≤ c.calls
  pub few_calls : c.calls ≤ 2047
  pub has_wires : 1 ≤ c.arity
  pub few_wires : c.arity ≤ 2
  pub short_input : c.input_len ≤ 8192
  pub short_joint : c.joint_len ≤ 8192
  pub input-add : (x y : List F) (call wire : ℕ) → length x ≡ c.input_len → length y ≡ c.input_len
      → c.input (add_polynomials ring x y) call wire ≡ ring.add (c.input x call wire) (c.input y call wire)
  pub input-scale : (a : F) (x : List F) (call wire : ℕ) → length x ≡ c.input_len
      → c.input (scale ring a x) call wire ≡ ring.mul a (c.input x call wire)
  pub validity-add : (o q : F) (x y joint r s : List F) → length x ≡ c.input_len → length y ≡ c.input_len → length joint ≡ c.joint_len → length r ≡ c.calls → length s ≡ c.calls
      → c.validity (ring.add o q) (add_polynomials ring x y) joint (add_polynomials ring r s) ≡ ring.add (c.validity o x joint r) (c.validity q y joint s)
  pub validity-scale : (a o : F) (x joint r : List F) → length x ≡ c.input_len → length joint ≡ c.joint_len → length r ≡ c.calls
      → c.validity (ring.mul a o) (scale ring a x) joint (scale ring a r) ≡ ring.mul a (c.validity o x joint r)

-- encodings are valid inputs, and out shares add
pub record EncodeLaws {F : Type 0} (ring : Ring F) (c : Shape F) : Type 0 where
  pub some_out : 1 ≤ c.out_len
  pub few_out : c.out_len ≤ 1024
  pub length-encode : (ms : List ℕ) (x : List F) → c.encode ms ≡ Some x → length x ≡ c.input_len
  pub encode-valid : (ms : List ℕ) (x joint : List F) → c.encode ms ≡ Some x → length joint ≡ c.joint_len → IsValid ring c x joint
  pub length-truncate : (x : List F) → length x ≡ c.input_len → length (c.truncate x) ≡ c.out_len
  pub truncate-add : (x y : List F) → length x ≡ c.input_len → length y ≡ c.input_len → c.truncate (add_polynomials ring x y) ≡ add_polynomials ring (c.truncate x) (c.truncate y)
