-- What a reader of a journal has behind it, and what an opening leaves.
use Rattle.std.specs.Prelude.{◌≡◌, ◌⊎◌, ℕ, ◌<◌, ◌≤◌, ◌==◌, Bool, true, false, List, [], ◌∷◌, length, take, Option, Some, if◌then◌else◌}
use Rattle.report_journal.specs.Journal.{AreBlocks, all_records, blocks, Closed, NoJournal, Stands}

-- blocks of these records stand up to the place q, and at least a byte behind them
pub record Behind (records : List (List ℕ)) (q : ℕ) (file : List ℕ) : Type 0 where
  pub parts : List (List (List ℕ))
  pub are : AreBlocks parts
  pub hold : all_records parts ≡ records
  pub place : length (blocks parts) ≡ q
  pub front : take q file ≡ blocks parts
  pub within : q < length file

-- n blocks of these records stand up to the place q, where a gate is shut
pub record ClosedIn (records : List (List ℕ)) (q n : ℕ) (file : List ℕ) : Type 0 where
  pub closed : Closed records q file
  pub count : length closed.parts ≡ n

-- The file stands for these records, in n blocks.
abbrev pub StandsIn : List (List ℕ) → ℕ → List ℕ → Type 0
StandsIn records n file = ((q : ℕ) × ClosedIn records q n file) ⊎ ((records ≡ []) × (n ≡ 0) × (length file ≤ 1))

-- a file that stands for all that what is held stands for
abbrev pub SameRecords : Option (List ℕ) → List ℕ → Type 0
SameRecords held c = (e : List ℕ) → held ≡ Some e → (records : List (List ℕ)) → Stands records e → Stands records c

-- an image of before, or a file that stands for all that what is held stands for
abbrev pub IsAsBefore : (List ℕ → Type 0) → Option (List ℕ) → List ℕ → Type 0
IsAsBefore images held c = images c ⊎ SameRecords held c

-- where it is told, what is held is no journal at this place
abbrev pub TellsNone : ℕ → Option (List ℕ) → Type 0
TellsNone at held = (e : List ℕ) → held ≡ Some e → NoJournal at e

-- no byte, or an open gate alone: a journal that was never opened, or not to its end
abbrev pub is_fresh : List ℕ → Bool
is_fresh [] = true
is_fresh (gate ∷ []) = gate == 1
is_fresh (gate ∷ next ∷ file) = false

-- what an opening makes of a file: a fresh one gets its first gate, shut
abbrev pub opened : List ℕ → List ℕ
opened file = if is_fresh file then 0 ∷ [] else file
