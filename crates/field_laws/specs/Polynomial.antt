-- Polynomials, as lists of their coefficients, the constant one first.
use Rattle.std.specs.Prelude.{List, [], ◌∷◌, map, length, slice_index_or}
use Rattle.field_laws.specs.Ring.{Ring, power}
use Rattle.field_laws.specs.Sums.{sum_to}

-- the value at x
unfoldable pub eval : {F : Type 0} → Ring F → List F → F → F
eval ring [] x = ring.nought
eval ring (a ∷ p) x = ring.add a (ring.mul x (eval ring p x))

-- the same as a sum of terms: coefficient i times x to the power i
abbrev pub sum_of_terms : {F : Type 0} → Ring F → List F → F → F
sum_of_terms ring p x = sum_to ring (length p) (λ i. ring.mul (slice_index_or p i ring.nought) (power ring x i))

-- p + q, entry by entry; the shorter one is followed by noughts
unfoldable pub add_polynomials : {F : Type 0} → Ring F → List F → List F → List F
add_polynomials ring [] q = q
add_polynomials ring (a ∷ p) [] = a ∷ p
add_polynomials ring (a ∷ p) (b ∷ q) = ring.add a b ∷ add_polynomials ring p q

-- c p
abbrev pub scale : {F : Type 0} → Ring F → F → List F → List F
scale ring c p = map (ring.mul c) p

-- p q: (a + X p) q = a q + X (p q)
unfoldable pub product : {F : Type 0} → Ring F → List F → List F → List F
product ring [] q = []
product ring (a ∷ p) q = add_polynomials ring (scale ring a q) (ring.nought ∷ product ring p q)
