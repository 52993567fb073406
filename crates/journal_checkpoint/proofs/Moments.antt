-- The moments of a change of a head.
use Rattle.std.proofs.Common.{◌≡◌, inl, inr, ⊎_elim, ℕ, ◌+◌, List, [], ◌∷◌, ◌++◌, length, drop, Option, Some, None, refl, sym, ◌∙◌, ap, arith}
use Rattle.std.proofs.lemmas.List.{append-nil, drop_all}
use Rattle.dap_disk.specs.Disk.{Elapses, LeavesOnly, NoMore, Only, Torn, of_told, written}
use Rattle.dap_disk.specs.RunLaws.{started, kept, then, weaker, told_before}
use Rattle.journal_checkpoint.specs.Packing.{KeepsGeneration, KeepsGenerationOr}
use Rattle.journal_checkpoint.proofs.Heads.{keeps_more, torn_none, torn_live}

module _ {D : Type 0} (moment : D → ℕ) (left_since : D → ℕ → List ℕ → Type 0) (may_leave : D → List ℕ → Type 0) where
  -- the length and the first byte are read
  pub looked : (old sized read : D) → ((c : List ℕ) → left_since old (moment old) c → may_leave old c) → NoMore (may_leave old) (may_leave sized)
      → Elapses (moment old) (moment sized) (left_since old) (left_since sized) (may_leave sized) → LeavesOnly moment left_since sized read (may_leave sized)
      → LeavesOnly moment left_since old read (KeepsGeneration (may_leave old))
  looked old sized read only_now no_more time reading =
      let P = KeepsGeneration (may_leave old) in
      then moment left_since old sized read P
      (kept moment left_since may_leave old old sized P (started moment left_since old P (λ c left. inr (c, only_now c left, refl))) (λ c left. inr (c, left, refl)) no_more time)
      (weaker moment left_since sized read (may_leave sized) P (λ c left. inr (c, no_more c left, refl)) reading)

  -- then the head goes
  pub looked_then : (old read new : D) → NoMore (may_leave old) (may_leave read) → LeavesOnly moment left_since old read (KeepsGeneration (may_leave old))
      → LeavesOnly moment left_since read new (KeepsGeneration (may_leave read)) → LeavesOnly moment left_since old new (KeepsGeneration (may_leave old))
  looked_then old read new no_more first second =
      then moment left_since old read new (KeepsGeneration (may_leave old)) first (weaker moment left_since read new _ (KeepsGeneration (may_leave old)) (λ c k. keeps_more (may_leave read) (may_leave old) c no_more k) second)

nothing : (bytes : List ℕ) → bytes ++ drop (1 + length bytes) (0 ∷ []) ≡ bytes
nothing bytes = ap (λ (l : List ℕ). bytes ++ l) (drop_all (1 + length bytes) (0 ∷ []) (omega arith)) ∙ append-nil bytes

-- the file is one byte, 0, before these bytes are written behind it
pub one_byte : (old new : Option (List ℕ)) (d : List ℕ) → new ≡ of_told (λ _. 0 ∷ []) old → new ≡ Some d → d ≡ 0 ∷ []
one_byte old new d done is = (told_before (λ _. 0 ∷ []) old d (sym done ∙ is)).2

pub one_and : (old mid new : Option (List ℕ)) (bytes d : List ℕ) → mid ≡ of_told (λ _. 0 ∷ []) old → new ≡ of_told (written 1 bytes) mid → new ≡ Some d → d ≡ 0 ∷ bytes
one_and old mid new bytes d ready done is =
    let from = told_before (written 1 bytes) mid d (sym done ∙ is) in
    let before = one_byte old mid from.0 ready from.1 in
    from.2 ∙ ap (written 1 bytes) before ∙ ap (λ (l : List ℕ). 0 ∷ l) (nothing bytes)

-- and the gate's byte is written over the 0
pub live_file : (old mid staged new : Option (List ℕ)) (bytes : List ℕ) → mid ≡ of_told (λ _. 0 ∷ []) old → staged ≡ of_told (written 1 bytes) mid → new ≡ of_told (written 0 (2 ∷ [])) staged → new ≡ of_told (λ _. 2 ∷ bytes) old
live_file None mid staged new bytes ready stage done = done ∙ ap (of_told (written 0 (2 ∷ []))) (stage ∙ ap (of_told (written 1 bytes)) ready)
live_file (Some f) mid staged new bytes ready stage done =
    done ∙ ap (of_told (written 0 (2 ∷ []))) (stage ∙ ap (of_told (written 1 bytes)) ready ∙ ap (λ (l : List ℕ). Some (0 ∷ l)) (nothing bytes))

module _ {D : Type 0} (moment : D → ℕ) (left_since : D → ℕ → List ℕ → Type 0) (may_leave : D → List ℕ → Type 0) (holds : D → Option (List ℕ)) (bytes : List ℕ) where
  -- the bytes are written behind the shut gate
  pub staged_moments : (old ready staged : D) → holds ready ≡ of_told (λ _. 0 ∷ []) (holds old) → Only (holds ready) (may_leave ready)
      → LeavesOnly moment left_since old ready (KeepsGeneration (may_leave old)) → LeavesOnly moment left_since ready staged (λ c. (d : List ℕ) × may_leave ready d × Torn 1 (length bytes) d c)
      → LeavesOnly moment left_since old staged (KeepsGenerationOr (2 ∷ bytes) (may_leave old))
  staged_moments old ready staged done only first second =
      then moment left_since old ready staged (KeepsGenerationOr (2 ∷ bytes) (may_leave old)) (weaker moment left_since old ready _ (KeepsGenerationOr (2 ∷ bytes) (may_leave old)) (λ c k. inl k) first)
      (weaker moment left_since ready staged _ (KeepsGenerationOr (2 ∷ bytes) (may_leave old)) (λ c p. inl (inl (torn_none (length bytes) p.0 c (one_byte (holds old) (holds ready) p.0 done (only p.0 p.1)) p.2))) second)

  -- then the gate is opened
  pub live_moments : (old ready staged new : D) → holds ready ≡ of_told (λ _. 0 ∷ []) (holds old) → holds staged ≡ of_told (written 1 bytes) (holds ready) → Only (holds staged) (may_leave staged)
      → LeavesOnly moment left_since old staged (KeepsGenerationOr (2 ∷ bytes) (may_leave old)) → LeavesOnly moment left_since staged new (λ c. (d : List ℕ) × may_leave staged d × Torn 0 1 d c)
      → LeavesOnly moment left_since old new (KeepsGenerationOr (2 ∷ bytes) (may_leave old))
  live_moments old ready staged new done stage only first second =
      then moment left_since old staged new (KeepsGenerationOr (2 ∷ bytes) (may_leave old)) first
      (weaker moment left_since staged new _ (KeepsGenerationOr (2 ∷ bytes) (may_leave old))
      (λ c p. ⊎_elim (λ none. inl (inl none)) (λ whole. inr whole) (torn_live bytes p.0 c (one_and (holds old) (holds ready) (holds staged) bytes p.0 done stage (only p.0 p.1)) p.2)) second)
