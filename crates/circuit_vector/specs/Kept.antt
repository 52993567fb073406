-- Lists and their inputs.
use Rattle.std.specs.Prelude.{◌≡◌, ℕ, ◌*◌, List, map, length}
use Rattle.field128.specs.declared.element.Field128.{Field128}
use Rattle.field128.specs.Element.{ring_of, number_of}
use Rattle.flp_circuits.specs.Shape.{IsValid}
use Rattle.circuit_vector.specs.Vector.{vector_shape}

-- the input of a list has the circuit's length, is valid at each joint randomness, and its out share has the numbers
pub record IsKept (len bits : ℕ) (ms : List ℕ) (x : List Field128) : Type 0 where
  pub size : length x ≡ len * bits
  pub valid : (joint : List Field128) → IsValid ring_of (vector_shape ring_of len bits) x joint
  pub numbers : map number_of ((vector_shape ring_of len bits).truncate x) ≡ ms
