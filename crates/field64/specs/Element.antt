-- The numbers modulo 2^64 - 2^32 + 1, and their roots of one.
use Rattle.std.specs.Prelude.{ℕ, ◌-◌, ◌%◌, ◌^◌}
use Rattle.std.proofs.Common.{lit<}
use Rattle.std.proofs.lemmas.Nat.{mod_below}
use Rattle.field_laws.specs.Ring.{Ring, power}
use Rattle.field_laws.specs.Residues.{residue_ring}
use Rattle.field64.specs.Modulus.{modulus}
use Rattle.field64.specs.declared.element.Field64.{Field64}

-- an element as a number
abbrev pub number_of : Field64 → ℕ
number_of x = x.number

-- the element of a number's rest
unfoldable pub residue_of : ℕ → Field64
residue_of n = record { number = n % modulus; below = mod_below n modulus (lit< tt) }

-- zero, one, sums, negatives and products
abbrev pub ring_of : Ring Field64
ring_of = residue_ring modulus number_of residue_of

-- 7 raised to 2^32 - 1, whose order is 2^32
unfoldable pub generator : Field64
generator = power ring_of (residue_of 7) 4294967295

-- the generator raised to its order divided by 2^n
unfoldable pub root_of_log : ℕ → Field64
root_of_log n = power ring_of generator (2 ^ (32 - n))

-- (p + 1) / 2
unfoldable pub half_element : Field64
half_element = residue_of 9223372034707292161
