-- The circuit of vectors, over any ring.
use Rattle.std.specs.Prelude.{ℕ, ◌*◌, ◌^◌, ◌≤◌, List, map, drop, length, flat_map, Bool, ◌&&◌, Option, Some, None, nat_eq, nat_lt, if◌then◌else◌}
use Rattle.std.specs.List.{list_all, range_with_len}
use Rattle.field_laws.specs.Ring.{Ring}
use Rattle.flp_circuits.specs.Shape.{Shape}
use Rattle.flp_circuits.specs.Kinds.{binary, number_of, sum_shape}
use Rattle.circuit_vector.specs.declared.vector.TheConstants.{MOST_BITS, MOST_INPUT, MOST_NUMBERS}

-- how many numbers of how many bits a vector may have
pub record AreSizes (len bits : ℕ) : Type 0 where
  pub some_numbers : 1 ≤ len
  pub few_numbers : len ≤ MOST_NUMBERS
  pub some_bits : 1 ≤ bits
  pub few_bits : bits ≤ MOST_BITS
  pub short_input : len * bits ≤ MOST_INPUT

-- whether they are len numbers below 2 ^ bits
abbrev pub are_numbers : ℕ → ℕ → List ℕ → Bool
are_numbers len bits ms = nat_eq (length ms) len && list_all (λ m. nat_lt m (2 ^ bits)) ms

module _ {F : Type 0} (ring : Ring F) where
  -- the bits of each number, the lowest first, the numbers in order
  abbrev pub bits_of_list : ℕ → List ℕ → List F
  bits_of_list bits ms = flat_map (binary ring bits) ms

  -- the input of a list; none where it isn't len numbers below 2 ^ bits
  abbrev pub list_encoding : ℕ → ℕ → List ℕ → Option (List F)
  list_encoding len bits ms = if are_numbers len bits ms then Some (bits_of_list bits ms) else None

  -- entry j of a list's out share: the number that the bits from j * bits on spell
  abbrev pub entry : ℕ → List F → ℕ → F
  entry bits x j = number_of ring bits (drop (j * bits) x)

  -- a sum's circuit over all the bits; a measurement is a list, and the out share has each number
  abbrev pub vector_shape : ℕ → ℕ → Shape F
  vector_shape len bits = record (sum_shape ring (len * bits)) {
    encode = list_encoding len bits;
    truncate = λ x. map (entry bits x) (range_with_len 0 len);
    out_len = len;
  }
