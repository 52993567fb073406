-- How one call on a journal follows another.
use Rattle.std.proofs.Common.{◌≡◌, ◌⊎◌, ◌≤◌, ◌<◌, inl, inr, ⊎_elim, ℕ, List, ◌++◌, length, Vec, ◌∙◌, ap, subst, arith, length-append}
use Rattle.std.proofs.lemmas.List.{length-map}
use Rattle.std.specs.declared.alloc.Global.{Global}
use Rattle.dap_disk.specs.Disk.{LeavesOnly}
use Rattle.dap_disk.specs.RunLaws.{then, weaker}
use Rattle.report_journal.specs.Journal.{Stands}
use Rattle.report_journal.specs.Log.{contents}
use Rattle.report_journal.specs.Retry.{WithOrWithout}

module _ {D : Type 0} (moment : D → ℕ) (left_since : D → ℕ → List ℕ → Type 0) where
  -- a run about the same records and the same block
  pub same_run : (old new : D) (records block records' block' : List (List ℕ)) → records' ≡ records → block' ≡ block
      → LeavesOnly moment left_since old new (WithOrWithout records' block') → LeavesOnly moment left_since old new (WithOrWithout records block)
  same_run old new records block records' block' same_records same_block run =
      subst (λ (x : List (List ℕ)). LeavesOnly moment left_since old new (WithOrWithout x block)) same_records
      (subst (λ (y : List (List ℕ)). LeavesOnly moment left_since old new (WithOrWithout records' y)) same_block run)

  -- after it, a run about the same
  pub then_same : (old mid new : D) (records block records' block' : List (List ℕ)) → records' ≡ records → block' ≡ block
      → LeavesOnly moment left_since old mid (WithOrWithout records block) → LeavesOnly moment left_since mid new (WithOrWithout records' block') → LeavesOnly moment left_since old new (WithOrWithout records block)
  then_same old mid new records block records' block' same_records same_block first second =
      then moment left_since old mid new (WithOrWithout records block) first (same_run mid new records block records' block' same_records same_block second)

  -- after it, a run about a second block behind the first
  pub then_more : (old mid new : D) (records block next records' : List (List ℕ)) → records' ≡ records ++ block
      → LeavesOnly moment left_since old mid (WithOrWithout records block) → LeavesOnly moment left_since mid new (WithOrWithout records' next)
      → LeavesOnly moment left_since old new (λ c. Stands records c ⊎ WithOrWithout (records ++ block) next c)
  then_more old mid new records block next records' same first second =
      then moment left_since old mid new (λ c. Stands records c ⊎ WithOrWithout (records ++ block) next c)
      (weaker moment left_since old mid (WithOrWithout records block) _ (λ c s. ⊎_elim (λ x. inl x) (λ y. inr (inl y)) s) first)
      (weaker moment left_since mid new (WithOrWithout records' next) _ (λ c s. inr (subst (λ (x : List (List ℕ)). WithOrWithout x next c) same s)) second)

-- records that are no more than before are those of before
pub not_more : (before : List (List ℕ)) (now old : List (Vec ℕ Global)) (records block : List (List ℕ)) → contents now ≡ records → contents old ≡ before → (records ≡ before) ⊎ (records ≡ before ++ block) → 0 < length block
    → length now ≤ length old → records ≡ before
not_more before now old records block is was (inl same) some le = same
not_more before now old records block is was (inr more) some le =
    let a = length-map now (λ (v : Vec ℕ Global). v.items) in
    let b = length-map old (λ (v : Vec ℕ Global). v.items) in
    let whole = ap length more ∙ length-append before block in
    absurd (omega (arith, a, b, ap length is, ap length was, whole, some, le))
