-- Lemmas: the tests `any` and `all` decide what stands in a list, in either order.
use Rattle.std.proofs.Common.{◌≡◌, Bool, true, List, [], ◌∷◌, ◌++◌, map, reverse, Decides, refl, sym, ap, subst, inl, inr}
use Rattle.std.proofs.lemmas.Bool.{or_cases, or_left, or_right, and_parts, and_from}
use Rattle.std.proofs.lemmas.List.{reverse-reverse}
use Rattle.std.specs.List.{list_any, list_all}
use mathlib.Core.List.{reverse-cons}
use Rattle.legal_journals.specs.History.{Mem}

Mem-left : {A : Type 0} (x : A) (xs ys : List A) → Mem x xs → Mem x (xs ++ ys)
Mem-left x [] ys m = elim m [ ]
Mem-left x (y ∷ xs) ys (inl e) = inl e
Mem-left x (y ∷ xs) ys (inr m) = inr (Mem-left x xs ys m)

Mem-right : {A : Type 0} (x : A) (xs ys : List A) → Mem x ys → Mem x (xs ++ ys)
Mem-right x [] ys m = m
Mem-right x (y ∷ xs) ys m = inr (Mem-right x xs ys m)

Mem-turn : {A : Type 0} (x y : A) (xs : List A) → Mem x (reverse xs ++ y ∷ []) → Mem x (reverse (y ∷ xs))
Mem-turn x y xs m = subst (λ l. Mem x l) (sym (reverse-cons y xs)) m

-- what stands in a list stands in its reverse
pub Mem-reverse : {A : Type 0} (x : A) (xs : List A) → Mem x xs → Mem x (reverse xs)
Mem-reverse x [] m = elim m [ ]
Mem-reverse x (y ∷ xs) (inl e) = Mem-turn x y xs (Mem-right x (reverse xs) (y ∷ []) (inl e))
Mem-reverse x (y ∷ xs) (inr m) = Mem-turn x y xs (Mem-left x (reverse xs) (y ∷ []) (Mem-reverse x xs m))

pub Mem-from_reverse : {A : Type 0} (x : A) (xs : List A) → Mem x (reverse xs) → Mem x xs
Mem-from_reverse x xs m = subst (λ l. Mem x l) (reverse-reverse xs) (Mem-reverse x (reverse xs) m)

pub any_tells : {A : Type 0} (p : A → Bool) (xs : List A) → list_any p xs ≡ true → (x : A) × Mem x xs × (p x ≡ true)
any_tells p [] e = absurd cc
any_tells {A} p (x ∷ xs) e =
    elim (or_cases (p x) (list_any p xs) e) as (λ _. (z : A) × Mem z (x ∷ xs) × (p z ≡ true)) [
      | inl here ↦ (x, inl refl, here)
      | inr later ↦ let found = any_tells p xs later in (found.0, inr found.1, found.2)
    ]

pub any_told : {A : Type 0} (p : A → Bool) (xs : List A) (x : A) → Mem x xs → p x ≡ true → list_any p xs ≡ true
any_told p [] x m t = elim m [ ]
any_told p (y ∷ xs) x (inl e) t = or_left (p y) (list_any p xs) (subst (λ z. p z ≡ true) e t)
any_told p (y ∷ xs) x (inr m) t = or_right (p y) (list_any p xs) (any_told p xs x m t)

-- the test decides what is said of one that stands in the list, newest first
pub any_decides : {A P : Type 0} (p : A → Bool) (xs : List A) → ((x : A) → Mem x (reverse xs) → p x ≡ true → P) → (P → (x : A) × Mem x (reverse xs) × (p x ≡ true)) → Decides (list_any p xs) P
any_decides p xs tells told = (
  λ e. let found = any_tells p xs e in tells found.0 (Mem-reverse found.0 xs found.1) found.2,
  λ q. let found = told q in any_told p xs found.0 (Mem-from_reverse found.0 xs found.1) found.2,
)

-- the same of a record that has one field besides those that the test names
pub one_decides : {A B : Type 0} (p : A → Bool) (make : B → A) (xs : List A) → ((x : A) → p x ≡ true → (b : B) × (x ≡ make b)) → ((b : B) → p (make b) ≡ true)
    → Decides (list_any p xs) ((b : B) × Mem (make b) (reverse xs))
one_decides {A} p make xs tells told =
    any_decides p xs (λ x m t. let h = tells x t in (h.0, subst (λ (z : A). Mem z (reverse xs)) h.1 m)) (λ (b, m). (make b, m, told b))

-- each one of the list passes
pub all_tells : {A : Type 0} (p : A → Bool) (xs : List A) → list_all p xs ≡ true → (x : A) → Mem x xs → p x ≡ true
all_tells p [] e x m = elim m [ ]
all_tells p (y ∷ xs) e x (inl q) = subst (λ z. p z ≡ true) (sym q) (and_parts (p y) (list_all p xs) e).0
all_tells p (y ∷ xs) e x (inr m) = all_tells p xs (and_parts (p y) (list_all p xs) e).1 x m

pub all_told : {A : Type 0} (p : A → Bool) (xs : List A) → ((x : A) → Mem x xs → p x ≡ true) → list_all p xs ≡ true
all_told p [] each = refl
all_told p (y ∷ xs) each = and_from (p y) (list_all p xs) (each y (inl refl)) (all_told p xs (λ x m. each x (inr m)))

pub Mem-map : {A B : Type 0} (f : A → B) (x : A) (xs : List A) → Mem x xs → Mem (f x) (map f xs)
Mem-map f x [] m = elim m [ ]
Mem-map f x (y ∷ xs) (inl e) = inl (ap f e)
Mem-map f x (y ∷ xs) (inr m) = inr (Mem-map f x xs m)

pub Mem-from_map : {A B : Type 0} (f : A → B) (b : B) (xs : List A) → Mem b (map f xs) → (x : A) × Mem x xs × (b ≡ f x)
Mem-from_map f b [] m = elim m [ ]
Mem-from_map f b (y ∷ xs) (inl e) = (y, inl refl, e)
Mem-from_map f b (y ∷ xs) (inr m) = let found = Mem-from_map f b xs m in (found.0, inr found.1, found.2)
