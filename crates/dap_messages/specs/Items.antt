-- The identifiers of a list of items.
use Rattle.std.specs.Prelude.{◌≡◌, ℕ, List, [], ◌∷◌, map}
use Rattle.std.specs.declared.cmp.Ordering.TheVariants.{Less}
use Rattle.std.specs.Ordering.{nat_cmp}
use Rattle.std.specs.Cmp.Lexicographic.{slice_cmp}
use Rattle.dap_messages.specs.declared.item.Tagged.{Tagged}

-- in their order
abbrev pub ids_of : {B : Type 0} → List (Tagged B) → List (List ℕ)
ids_of xs = map (λ x. x.id) xs

-- each is below the next one, byte by byte from the left
abbrev pub IsAscending : List (List ℕ) → Type 0
IsAscending [] = Unit {0}
IsAscending (a ∷ []) = Unit {0}
IsAscending (a ∷ b ∷ rest) = (slice_cmp nat_cmp a b ≡ Less) × IsAscending (b ∷ rest)
