-- What the making of a head and of a checkpoint promise.
use Rattle.std.specs.Prelude.{◌≡◌, ℕ, ◌-◌, ◌^◌, max, Bool, IsTrue, false, List, Option, Some}
use Rattle.report_journal.specs.Journal.{NoJournal}
use Rattle.journal_checkpoint.specs.Heads.{generation_of, pair_journal, needs_head, second_after_head, with_other}
use Rattle.journal_checkpoint.specs.Packing.{HasFew, HasMore, IsPacked}
use Rattle.journal_checkpoint.specs.Pair.{BothTell, Unwritten, KeepsRecords}

module _ {D : Type 0} (holds : D → Option (List ℕ)) (moment : D → ℕ) (left_since : D → ℕ → List ℕ → Type 0) (may_leave : D → List ℕ → Type 0) (old new : D × D) where
  -- A pair got a head where it needs one: the second disk is then headed, and has no block.
  pub record GivesHead : Type 0 where
    pub first : holds new.0 ≡ holds old.0
    pub second : BothTell holds old (λ a b. holds new.1 ≡ Some (second_after_head a b))
    pub unwritten : BothTell holds old (λ a b. needs_head a b ≡ false → Unwritten holds moment left_since may_leave old new)
    pub any_moment : KeepsRecords holds moment left_since old new

  -- A journal of more blocks than may stay is packed onto the disk that isn't live; with few nothing is written.
  pub record Checkpoints (over : ℕ) (packed : Bool) : Type 0 where
    pub few : packed ≡ false → Unwritten holds moment left_since may_leave old new × BothTell holds old (λ a b. HasFew over (pair_journal a b))
    pub live : IsTrue packed → BothTell holds old (λ a b. (file : List ℕ) × IsPacked over (max (generation_of a) (generation_of b)) (pair_journal a b) file
        × (holds new.0 ≡ Some (with_other a b file).0) × (holds new.1 ≡ Some (with_other a b file).1))
    pub any_moment : KeepsRecords holds moment left_since old new

  -- The bytes are no journal, and nothing is written.
  pub record FindsNone (at : ℕ) : Type 0 where
    pub unwritten : Unwritten holds moment left_since may_leave old new
    pub none : BothTell holds old (λ a b. NoJournal at (pair_journal a b))

  -- There are more blocks than may stay, there is no generation after this one, and nothing is written.
  pub record IsLast (over : ℕ) : Type 0 where
    pub unwritten : Unwritten holds moment left_since may_leave old new
    pub more : BothTell holds old (λ a b. HasMore over (pair_journal a b))
    pub last : BothTell holds old (λ a b. max (generation_of a) (generation_of b) ≡ 2 ^ 64 - 1)
