-- The numbers modulo 786433, and their roots of one.
use Rattle.std.specs.Prelude.{ℕ, ◌-◌, ◌%◌, ◌^◌}
use Rattle.std.proofs.Common.{lit<}
use Rattle.std.proofs.lemmas.Nat.{mod_below}
use Rattle.field_laws.specs.Ring.{Ring, power}
use Rattle.field_laws.specs.Residues.{residue_ring}
use Rattle.stream_tests.specs.Modulus.{modulus}
use Rattle.stream_tests.specs.declared.element.SmallField.{SmallField}

-- an element as a number
abbrev pub number_of : SmallField → ℕ
number_of x = x.number

-- the element of a number's rest
unfoldable pub residue_of : ℕ → SmallField
residue_of n = record { number = n % modulus; below = mod_below n modulus (lit< tt) }

-- zero, one, sums, negatives and products
abbrev pub ring_of : Ring SmallField
ring_of = residue_ring modulus number_of residue_of

-- 10 raised to 3, whose order is 2^18
unfoldable pub generator : SmallField
generator = power ring_of (residue_of 10) 3

-- the generator raised to its order divided by 2^n
unfoldable pub root_of_log : ℕ → SmallField
root_of_log n = power ring_of generator (2 ^ (18 - n))

-- (p + 1) / 2
unfoldable pub half_element : SmallField
half_element = residue_of 393217
