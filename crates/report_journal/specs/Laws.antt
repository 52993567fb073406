-- Laws about journals.
use Rattle.std.specs.Prelude.{◌≡◌, ℕ, List}
use Rattle.report_journal.specs.Journal.{Stands, NoJournal}
use Rattle.report_journal.specs.Reading.{StandsIn}

-- A file stands for one list of records at most, in one number of blocks, or is no journal at one place at most, and never both.
pub record OneReading : Type 0 where
  pub once : (records records' : List (List ℕ)) (file : List ℕ) → Stands records file → Stands records' file → records ≡ records'
  pub place : (q q' : ℕ) (file : List ℕ) → NoJournal q file → NoJournal q' file → q ≡ q'
  pub apart : (records : List (List ℕ)) (q : ℕ) (file : List ℕ) → Stands records file → NoJournal q file → ⊥
  pub count : (n n' : ℕ) (records records' : List (List ℕ)) (file : List ℕ) → StandsIn records n file → StandsIn records' n' file → n ≡ n'
