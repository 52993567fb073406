-- A circuit with as many calls as are asked for, to test sizes that no kind of measurement has.
use Rattle.std.specs.Prelude.{ℕ, ◌-◌, [], ◌∷◌, None, slice_index_or}
use Rattle.field_laws.specs.Ring.{Ring}
use Rattle.flp_circuits.specs.Shape.{Shape}
use Rattle.flp_circuits.specs.Kinds.{bit_form}

-- each call tests one bit, and the first result is the validity value; no measurement has an encoding
abbrev pub wide_shape : {F : Type 0} → Ring F → ℕ → Shape F
wide_shape ring calls = record {
  encode = λ ms. None;
  truncate = λ x. slice_index_or x 0 ring.nought ∷ [];
  input_len = calls;
  out_len = 1;
  joint_len = 0;
  calls = calls;
  arity = 1;
  input = λ x call wire. slice_index_or x (call - 1) ring.nought;
  form = bit_form ring;
  validity = λ o x joint results. slice_index_or results 0 ring.nought;
}
