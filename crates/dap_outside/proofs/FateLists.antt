-- How a list of fates goes on.
use Rattle.std.proofs.Common.{◌≡◌, ℕ, ◌+◌, List, length, min, drop, subst, refl}
use Rattle.std.proofs.lemmas.List.{drop-drop, drop_min}
use Rattle.dap_outside.specs.Fates.{drops_after, row_after}
use Rattle.dap_outside.specs.FateList.{FateList, next_fate, after_next}
use Rattle.dap_outside.specs.declared.fates.Fate.{Fate}

-- a list of which some were given, and the counts
abbrev pub seen_list : List Fate → Fate → ℕ → ℕ → ℕ → FateList
seen_list items after given drops row = record { coming = drop given items; after = after; drops = drops; row = row }

-- one more was given and counted
pub given_next : (items : List Fate) (after : Fate) (given drops row : ℕ) (now : FateList) (fate : Fate) (place dropped in_row : ℕ)
    → seen_list items after given drops row ≡ now
    → fate ≡ next_fate now
    → place ≡ min (given + 1) (length items)
    → dropped ≡ drops_after fate drops
    → in_row ≡ row_after fate row
    → seen_list items after place dropped in_row ≡ after_next now
given_next items after given drops row now fate place dropped in_row is by at counts rows =
    subst (λ (s : FateList). fate ≡ next_fate s → seen_list items after place dropped in_row ≡ after_next s) is
    (λ next. rw (at, drop_min, drop-drop, counts, rows, next) refl)
    by
