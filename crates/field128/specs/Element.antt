-- The numbers modulo 2^128 - 7 * 2^66 + 1, and their roots of one.
use Rattle.std.specs.Prelude.{ℕ, ◌-◌, ◌%◌, ◌^◌}
use Rattle.std.proofs.Common.{lit<}
use Rattle.std.proofs.lemmas.Nat.{mod_below}
use Rattle.field_laws.specs.Ring.{Ring, power}
use Rattle.field_laws.specs.Residues.{residue_ring}
use Rattle.field128.specs.Modulus.{modulus}
use Rattle.field128.specs.declared.element.Field128.{Field128}

-- an element as a number
abbrev pub number_of : Field128 → ℕ
number_of x = x.number

-- the element of a number's rest
unfoldable pub residue_of : ℕ → Field128
residue_of n = record { number = n % modulus; below = mod_below n modulus (lit< tt) }

-- zero, one, sums, negatives and products
abbrev pub ring_of : Ring Field128
ring_of = residue_ring modulus number_of residue_of

-- 7 raised to 2^62 - 7, whose order is 2^66
unfoldable pub generator : Field128
generator = power ring_of (residue_of 7) 4611686018427387897

-- the generator raised to its order divided by 2^n
unfoldable pub root_of_log : ℕ → Field128
root_of_log n = power ring_of generator (2 ^ (66 - n))

-- (p + 1) / 2
unfoldable pub half_element : Field128
half_element = residue_of 170141183460469231473432886683950383105
