-- Vectors, as lists of elements and as lists of their numbers.
use Rattle.std.specs.Prelude.{ℕ, ◌+◌, ◌%◌, List, [], ◌∷◌, replicate}
use Rattle.field_laws.specs.Ring.{Ring}

-- the sums of two vectors' elements, place by place
unfoldable pub add_elements : {F : Type 0} → Ring F → List F → List F → List F
add_elements ring [] ys = []
add_elements ring (x ∷ xs) [] = []
add_elements ring (x ∷ xs) (y ∷ ys) = ring.add x y ∷ add_elements ring xs ys

-- the sums of two vectors' numbers modulo p, place by place
abbrev pub add_each : ℕ → List ℕ → List ℕ → List ℕ
add_each p [] ys = []
add_each p (x ∷ xs) [] = []
add_each p (x ∷ xs) (y ∷ ys) = ((x + y) % p) ∷ add_each p xs ys

-- the sum modulo p of vectors of length n
abbrev pub sum_of : ℕ → ℕ → List (List ℕ) → List ℕ
sum_of p n [] = replicate n 0
sum_of p n (v ∷ vs) = add_each p v (sum_of p n vs)
