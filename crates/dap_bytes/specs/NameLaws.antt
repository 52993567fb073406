-- The cells of a name are told by the name in them.
use Rattle.std.specs.Prelude.{◌≡◌, ℕ, ◌-◌, ◌++◌, List, length, take, replicate}
use Rattle.std.proofs.Common.{sym}
use Rattle.std.proofs.lemmas.List.{length-take-le}
use Rattle.dap_bytes.specs.Name.{IsFilled}

-- how many cells are used, by the name in them
pub used_again : {cells : List ℕ} {used : ℕ} → IsFilled cells used → length (take used cells) ≡ used
used_again {cells} {used} h = length-take-le used cells h.within

-- the cells, by the name in them
pub cells_again : {cells : List ℕ} {used : ℕ} → IsFilled cells used → take used cells ++ replicate (32 - length (take used cells)) 0 ≡ cells
cells_again {cells} {used} h = rw (used_again h) (sym h.padded)
