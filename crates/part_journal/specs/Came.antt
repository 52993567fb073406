-- What a call leaves, by what became of the block in hand.
use Rattle.std.specs.Prelude.{◌≡◌, ◌⊎◌, ℕ, List, [], ◌∷◌, ◌++◌, replicate, Bool, true, false, Option, Some, None}
use Rattle.part_journal.specs.Pages.{Pages}

module _ {R : Type 0} where
  -- some Opens more
  abbrev pub Opens : R → List R → List R → Type 0
  Opens x xs ys = (n : ℕ) × (ys ≡ xs ++ replicate n x)

  -- where it is known what became of the last block, nothing or an Open is in hand
  abbrev pub IsIdle : R → Pages R → Type 0
  IsIdle x p = (b : Bool) → p.fate ≡ Some b → (p.block ≡ []) ⊎ (p.block ≡ x ∷ [])

  -- by the fate before and after: one that stays open leaves records and block; one that was open and is known adds the block or not, and some Opens; one that was known stays, and some Opens are added
  abbrev pub CameBy : R → Pages R → Pages R → Option Bool → Option Bool → Type 0
  CameBy x p q None None = (q.records ≡ p.records) × (q.block ≡ p.block)
  CameBy x p q None (Some true) = Opens x (p.records ++ p.block) q.records
  CameBy x p q None (Some false) = Opens x p.records q.records
  CameBy x p q (Some was) None = ⊥
  CameBy x p q (Some was) (Some now) = (now ≡ was) × Opens x p.records q.records

  -- from the pages p, with a block in hand, to the pages q
  pub record Came (x : R) (p q : Pages R) : Type 0 where
    pub by : CameBy x p q p.fate q.fate
    pub idle : IsIdle x q
