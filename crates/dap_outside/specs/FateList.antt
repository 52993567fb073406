-- Fates by a list.
use Rattle.std.specs.Prelude.{ℕ, List, [], ◌∷◌, drop}
use Rattle.dap_outside.specs.Fates.{drops_after, row_after}
use Rattle.dap_outside.specs.declared.fates.Fate.{Fate}

-- the fates that come, the one for good after them, and the Drops that were given
pub record FateList : Type 0 where
  pub coming : List Fate
  pub after : Fate
  pub drops : ℕ
  pub row : ℕ

-- a list of fates, with the messages that weren't dropped
pub record KeptList : Type 0 where
  pub list : FateList
  pub carried : List (List ℕ)

-- the first of a list, or another fate where it is empty
abbrev pub first_or : List Fate → Fate → Fate
first_or [] after = after
first_or (fate ∷ coming) after = fate

-- the fate that comes next
abbrev pub next_fate : FateList → Fate
next_fate s = first_or s.coming s.after

-- what is left once that fate was given
abbrev pub after_next : FateList → FateList
after_next s = record {
  coming = drop 1 s.coming;
  after = s.after;
  drops = drops_after (next_fate s) s.drops;
  row = row_after (next_fate s) s.row;
}
