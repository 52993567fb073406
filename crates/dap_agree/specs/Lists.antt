-- Lists: what stands in them once, and sums.
use Rattle.std.specs.Prelude.{List, [], ◌∷◌}
use Rattle.legal_journals.specs.History.{Mem}

-- no member stands twice
abbrev pub Distinct : {A : Type 0} → List A → Type 0
Distinct [] = Unit {0}
Distinct (x ∷ xs) = (Mem x xs → ⊥) × Distinct xs

-- each member of the first stands in the second
abbrev pub Sub : {A : Type 0} → List A → List A → Type 0
Sub {A} xs ys = (x : A) → Mem x xs → Mem x ys

-- what is added for each member, to what there is at the end
abbrev pub total_by : {A B : Type 0} → (B → B → B) → B → (A → B) → List A → B
total_by op e f [] = e
total_by op e f (x ∷ xs) = op (f x) (total_by op e f xs)
