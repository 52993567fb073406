-- What is worked out of a list one element after another, by an operation whose order doesn't matter.
use Rattle.std.proofs.Common.{◌≡◌, ℕ, zero, suc, ◌<◌, List, [], ◌∷◌, length, get_or, set, refl, sym, ap, ◌∙◌, arith}
use Rattle.std.specs.Prelude.{IsPermutation}
use Rattle.std.specs.List.{swap}
use Rattle.std.proofs.lemmas.List.{set-get_or}
use Rattle.std.proofs.lemmas.List.Sorted.{IsPermutation-keeps}

module _ {A B : Type 0} (with_one : A → B → B) (all : List A → B)
    (by_one : (x : A) (xs : List A) → all (x ∷ xs) ≡ with_one x (all xs))
    (either_first : (x y : A) (b : B) → with_one x (with_one y b) ≡ with_one y (with_one x b)) where
  -- one element in another's place
  in_place : (xs : List A) (i : ℕ) (x d : A) → i < length xs → with_one (get_or xs i d) (all (set xs i x)) ≡ with_one x (all xs)
  in_place [] i x d lt = absurd (omega (arith, lt))
  in_place (y ∷ ys) zero x d lt =
      ap (with_one y) (by_one x ys) ∙ either_first y x (all ys) ∙ ap (with_one x) (sym (by_one y ys))
  in_place (y ∷ ys) (suc i) x d lt =
      ap (with_one (get_or ys i d)) (by_one y (set ys i x)) ∙ either_first (get_or ys i d) y (all (set ys i x))
      ∙ ap (with_one y) (in_place ys i x d (omega (arith, lt))) ∙ either_first y x (all ys) ∙ ap (with_one x) (sym (by_one y ys))

  -- the first element and another, each in the other's place
  first_and : (y : A) (ys : List A) (j : ℕ) (d : A) → j < length ys → all (get_or ys j d ∷ set ys j y) ≡ all (y ∷ ys)
  first_and y ys j d lt = by_one (get_or ys j d) (set ys j y) ∙ in_place ys j y d lt ∙ sym (by_one y ys)

  exchanged : (xs : List A) (i j : ℕ) (d : A) → i < length xs → j < length xs → all (set (set xs i (get_or xs j d)) j (get_or xs i d)) ≡ all xs
  exchanged [] i j d p q = absurd (omega (arith, p))
  exchanged (y ∷ ys) zero zero d p q = refl
  exchanged (y ∷ ys) zero (suc j) d p q = first_and y ys j d (omega (arith, q))
  exchanged (y ∷ ys) (suc i) zero d p q = first_and y ys i d (omega (arith, p))
  exchanged (y ∷ ys) (suc i) (suc j) d p q =
      by_one y (set (set ys i (get_or ys j d)) j (get_or ys i d)) ∙ ap (with_one y) (exchanged ys i j d (omega (arith, p)) (omega (arith, q))) ∙ sym (by_one y ys)

  swapped : (xs : List A) (i j : ℕ) → i < length xs → j < length xs → all (swap xs i j) ≡ all xs
  swapped [] i j p q = absurd (omega (arith, p))
  swapped (y ∷ ys) i j p q = exchanged (y ∷ ys) i j y p q

  -- no order changes what is worked out
  pub all-permutation : (xs ys : List A) → IsPermutation xs ys → all ys ≡ all xs
  all-permutation xs = IsPermutation-keeps xs (λ l. all l ≡ all xs) refl (λ l i j p q h. swapped l i j p q ∙ h)
