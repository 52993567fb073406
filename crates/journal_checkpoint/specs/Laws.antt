-- Laws about pairs.
use Rattle.std.specs.Prelude.{◌≡◌, ℕ, ◌<◌, IsTrue, List, length}
use Rattle.report_journal.specs.Journal.{Stands}
use Rattle.journal_checkpoint.specs.Heads.{generation_of, begins_block}

-- A file that begins with a block has no head, and the files that begin so are those that stand for a record, where they stand for any.
pub record BlocksHaveNoHead : Type 0 where
  pub none : (file : List ℕ) → IsTrue (begins_block file) → generation_of file ≡ 0
  pub begins : (records : List (List ℕ)) (file : List ℕ) → Stands records file → 0 < length records → IsTrue (begins_block file)
  pub some : (records : List (List ℕ)) (file : List ℕ) → Stands records file → IsTrue (begins_block file) → 0 < length records
