-- What a call that goes on through stops promises.
use Rattle.std.specs.Prelude.{◌⊎◌, ℕ, List, ◌++◌}
use Rattle.report_journal.specs.Journal.{Stands}

-- the file stands for the records, without the block or with it
abbrev pub WithOrWithout : List (List ℕ) → List (List ℕ) → List ℕ → Type 0
WithOrWithout records block file = Stands records file ⊎ Stands (records ++ block) file
