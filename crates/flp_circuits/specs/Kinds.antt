-- The circuits of the three kinds of measurement, over any ring.
use Rattle.std.specs.Prelude.{ℕ, ◌+◌, ◌-◌, ◌/◌, ◌%◌, ◌^◌, List, [], ◌∷◌, map, length, Bool, Option, Some, None, nat_eq, nat_lt, nat_le, if◌then◌else◌, slice_index_or, position, unwrap_or}
use Rattle.std.specs.List.{range_with_len}
use Rattle.std.specs.Option.{option_and_then}
use Rattle.field_laws.specs.Ring.{Ring, power, minus}
use Rattle.field_laws.specs.Sums.{sum_to}
use Rattle.flp_circuits.specs.Shape.{Shape, Quadratic}

-- the place of the first bound that m is not above; the number of bounds where it is above all
abbrev pub bucket : List ℕ → ℕ → ℕ
bucket bounds m = unwrap_or (position (λ bound. nat_le m bound) bounds) (length bounds)

-- the number of a list of one; none for another list
abbrev pub only : List ℕ → Option ℕ
only [] = None
only (m ∷ []) = Some m
only (m ∷ (n ∷ ms)) = None

module _ {F : Type 0} (ring : Ring F) where
  -- a b
  abbrev pub product_form : Quadratic F
  product_form = record { constant = ring.nought; first = ring.nought; second = ring.nought; first_first = ring.nought; first_second = ring.unit; second_second = ring.nought }

  -- a a - a, which is nought at nought and at one
  abbrev pub bit_form : Quadratic F
  bit_form = record { constant = ring.nought; first = ring.neg ring.unit; second = ring.nought; first_first = ring.unit; first_second = ring.nought; second_second = ring.nought }

  -- one for true, nought for false
  abbrev pub bit : Bool → F
  bit b = if b then ring.unit else ring.nought

  -- the n lowest binary digits of m, the lowest first
  abbrev pub binary : ℕ → ℕ → List F
  binary n m = map (λ i. bit (nat_eq (m / 2 ^ i % 2) 1)) (range_with_len 0 n)

  -- one at a place and nought at the n - 1 others
  abbrev pub one_hot : ℕ → ℕ → List F
  one_hot n place = map (λ i. bit (nat_eq i place)) (range_with_len 0 n)

  -- the sum of the first n entries, each times its weight
  unfoldable pub weighted : (ℕ → F) → ℕ → List F → F
  weighted weight n xs = sum_to ring n (λ i. ring.mul (weight i) (slice_index_or xs i ring.nought))

  -- entry i times 2 ^ i
  abbrev pub number_of : ℕ → List F → F
  number_of n xs = weighted (λ i. power ring (ring.add ring.unit ring.unit) i) n xs

  -- entry i times r ^ (i + 1)
  abbrev pub weighed : F → ℕ → List F → F
  weighed r n xs = weighted (λ i. power ring r (i + 1)) n xs

  -- the sum of the first n entries
  unfoldable pub total : ℕ → List F → F
  total n xs = sum_to ring n (λ i. slice_index_or xs i ring.nought)

  -- the input of a count
  abbrev pub count_encoding : ℕ → Option (List F)
  count_encoding m = if nat_lt m 2 then Some (bit (nat_eq m 1) ∷ []) else None

  -- the input of a number of so many bits
  abbrev pub sum_encoding : ℕ → ℕ → Option (List F)
  sum_encoding bits m = if nat_lt m (2 ^ bits) then Some (binary bits m) else None

  -- the input of a number that falls into a bucket
  abbrev pub histogram_encoding : List ℕ → ℕ → Option (List F)
  histogram_encoding bounds m = Some (one_hot (length bounds + 1) (bucket bounds m))

  -- nought or one; the gadget multiplies the input with itself, which changes neither
  abbrev pub count_shape : Shape F
  count_shape = record {
    encode = λ ms. option_and_then count_encoding (only ms);
    truncate = λ x. slice_index_or x 0 ring.nought ∷ [];
    input_len = 1;
    out_len = 1;
    joint_len = 0;
    calls = 1;
    arity = 2;
    input = λ x call wire. slice_index_or x 0 ring.nought;
    form = product_form;
    validity = λ o x joint results. minus ring (slice_index_or results 0 ring.nought) (slice_index_or x 0 ring.nought);
  }

  -- a number of so many bits; each call tests one bit
  abbrev pub sum_shape : ℕ → Shape F
  sum_shape bits = record {
    encode = λ ms. option_and_then (sum_encoding bits) (only ms);
    truncate = λ x. number_of bits x ∷ [];
    input_len = bits;
    out_len = 1;
    joint_len = 1;
    calls = bits;
    arity = 1;
    input = λ x call wire. slice_index_or x (call - 1) ring.nought;
    form = bit_form;
    validity = λ o x joint results. weighed (slice_index_or joint 0 ring.nought) bits results;
  }

  -- a bucket between bounds; each call tests one bit, and the bits have to sum to one
  abbrev pub histogram_shape : List ℕ → Shape F
  histogram_shape bounds = record {
    encode = λ ms. option_and_then (histogram_encoding bounds) (only ms);
    truncate = λ x. x;
    input_len = length bounds + 1;
    out_len = length bounds + 1;
    joint_len = 2;
    calls = length bounds + 1;
    arity = 1;
    input = λ x call wire. slice_index_or x (call - 1) ring.nought;
    form = bit_form;
    validity = λ o x joint results.
        let r = slice_index_or joint 1 ring.nought in
        ring.add (ring.mul r (weighed (slice_index_or joint 0 ring.nought) (length bounds + 1) results))
        (ring.mul (ring.mul r r) (minus ring (total (length bounds + 1) x) o));
  }
