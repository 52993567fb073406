-- Sums of two vectors, place by place.
use Rattle.std.proofs.Common.{◌≡◌, ℕ, zero, suc, ◌+◌, ◌%◌, ◌<◌, List, [], ◌∷◌, ◌++◌, ap, ◌∙◌, refl, arith, length, map, take, drop, set, get_or, append-nil}
use Rattle.std.proofs.lemmas.List.{take_all, drop_all}
use Rattle.field_laws.specs.Ring.{Ring}
use Rattle.field_laws.specs.Residues.{IsModular}
use Rattle.field_laws.specs.Vector.{add_elements, add_each}

-- the first i places of xs have ys added to them
abbrev pub added : {F : Type 0} → Ring F → List F → List F → ℕ → List F
added ring xs ys i = add_elements ring (take i xs) (take i ys) ++ drop i xs

pub added-zero : {F : Type 0} (ring : Ring F) (xs ys : List F) → added ring xs ys 0 ≡ xs
unfolding add_elements
added-zero ring xs ys = refl

-- one more place
pub added-suc : {F : Type 0} (ring : Ring F) (xs ys : List F) (i : ℕ) → i < length xs → i < length ys
    → set (added ring xs ys i) i (ring.add (get_or (added ring xs ys i) i ring.nought) (get_or ys i ring.nought)) ≡ added ring xs ys (suc i)
unfolding add_elements
added-suc ring [] ys i h k = absurd (omega arith)
added-suc ring (x ∷ xs) [] i h k = absurd (omega arith)
added-suc ring (x ∷ xs) (y ∷ ys) zero h k = refl
added-suc ring (x ∷ xs) (y ∷ ys) (suc i) h k = ap (λ l. ring.add x y ∷ l) (added-suc ring xs ys i (omega arith) (omega arith))

pub added-all : {F : Type 0} (ring : Ring F) (xs ys : List F) (n : ℕ) → length xs ≡ n → length ys ≡ n → added ring xs ys n ≡ add_elements ring xs ys
added-all ring xs ys n h k =
    ap (λ l. add_elements ring l (take n ys) ++ drop n xs) (take_all n xs (omega arith))
    ∙ ap (λ l. add_elements ring xs l ++ drop n xs) (take_all n ys (omega arith))
    ∙ ap (λ l. add_elements ring xs ys ++ l) (drop_all n xs (omega arith)) ∙ append-nil (add_elements ring xs ys)

-- a sum of elements is the sum of their numbers
pub map-add_elements : {F : Type 0} {p : ℕ} {number : F → ℕ} {ring : Ring F} → IsModular p number ring → (xs ys : List F)
    → map number (add_elements ring xs ys) ≡ add_each p (map number xs) (map number ys)
unfolding add_elements
map-add_elements laws [] ys = refl
map-add_elements laws (x ∷ xs) [] = refl
map-add_elements {p = p} {number = number} {ring = ring} laws (x ∷ xs) (y ∷ ys) =
    ap (λ n. n ∷ map number (add_elements ring xs ys)) (laws.add x y) ∙ ap (λ l. ((number x + number y) % p) ∷ l) (map-add_elements laws xs ys)
