-- Tests of lists, and lists that are joined.
use Rattle.std.proofs.Common.{◌≡◌, ◌⊎◌, ℕ, List, [], ◌∷◌, Bool, cond, true, false, ◌||◌, Some, refl, ap, subst, ◌∙◌, inl, inr, arith}
use Rattle.std.proofs.lemmas.Bool.{or_left, or_right}
use Rattle.std.proofs.lemmas.List.Elements.{All-head, All-tail, Contains-append_cases, Contains-append_left, Contains-append_right, Contains-push, Contains-push_cases}
use Rattle.std.specs.List.{All, Contains, find, list_any, sum_by}
use Rattle.std.proofs.lemmas.List.Sums.{sum_by-cons}

pub contains_cases : {X : Type 0} → (y : X) (ys : List X) (x : X) → Contains (y ∷ ys) x → (y ≡ x) ⊎ Contains ys x
contains_cases {X} y ys x c = elim (Contains-append_cases (y ∷ []) ys x c) [
  | inl first ↦ elim (Contains-push_cases [] y x first) [
    | inl none ↦ absurd (omega (arith, none.1))
    | inr e ↦ inl e
  ]
  | inr more ↦ inr more
]

-- the first element is one
pub contains_first : {X : Type 0} (y : X) (ys : List X) → Contains (y ∷ ys) y
contains_first {X} y ys = Contains-append_left (y ∷ []) ys y (Contains-push [] y)

pub any_from : {X : Type 0} → (p : X → Bool) (xs : List X) (x : X) → Contains xs x → p x ≡ true → list_any p xs ≡ true
any_from {X} p [] x c h = absurd (omega (arith, c.1))
any_from {X} p (y ∷ ys) x c h = elim (contains_cases y ys x c) [
  | inl e ↦ or_left (p y) (list_any p ys) (ap p e ∙ h)
  | inr more ↦ or_right (p y) (list_any p ys) (any_from p ys x more h)
]

-- an element that passes
pub record Passing {X : Type 0} (p : X → Bool) (xs : List X) (x : X) : Type 0 where
  pub contained : Contains xs x
  pub passes : p x ≡ true

behind_first : {X : Type 0} (p : X → Bool) (y : X) (ys : List X) (x : X) → Passing p ys x → Passing p (y ∷ ys) x
behind_first {X} p y ys x h = record { contained = Contains-append_right (y ∷ []) ys x h.contained; passes = h.passes }

at_first : {X : Type 0} (p : X → Bool) (y : X) (ys : List X) → p y ≡ true → Passing p (y ∷ ys) y
at_first {X} p y ys h = record { contained = contains_first y ys; passes = h }

pub found_in : {X : Type 0} (p : X → Bool) (xs : List X) (x : X) → find p xs ≡ Some x → Passing p xs x
found_in {X} p [] x e = absurd cc
found_in {X} p (y ∷ ys) x e = go (λ h. found_in p ys x h) (p y) refl e
  where
    go : (find p ys ≡ Some x → Passing p ys x) → (b : Bool) → p y ≡ b → cond b (Some y) (find p ys) ≡ Some x → Passing p (y ∷ ys) x
    go later true is h = let same : y ≡ x = cc in subst (Passing p (y ∷ ys)) same (at_first p y ys is)
    go later false is h = behind_first p y ys x (later h)

pub any_in : {X : Type 0} (p : X → Bool) (xs : List X) → list_any p xs ≡ true → (x : X) × Passing p xs x
any_in {X} p [] e = absurd cc
any_in {X} p (y ∷ ys) e = go (λ h. any_in p ys h) (p y) refl e
  where
    go : (list_any p ys ≡ true → (x : X) × Passing p ys x) → (b : Bool) → p y ≡ b → (b || list_any p ys) ≡ true → (x : X) × Passing p (y ∷ ys) x
    go later true is h = (y, at_first p y ys is)
    go later false is h = let rest = later h in (rest.0, behind_first p y ys rest.0 rest.1)

-- what is added of equal parts is equal
pub sum_by-agree : {X : Type 0} (f g : X → ℕ) (xs : List X) → All (λ x. f x ≡ g x) xs → sum_by f xs ≡ sum_by g xs
sum_by-agree {X} f g [] h = refl
sum_by-agree {X} f g (x ∷ xs) h =
    omega (arith, sum_by-cons f x xs, sum_by-cons g x xs, All-head (λ x. f x ≡ g x) x xs h, sum_by-agree f g xs (All-tail (λ x. f x ≡ g x) x xs h))
