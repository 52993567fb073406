-- How a journal's invariant goes on.
use Rattle.std.proofs.Common.{◌≡◌, ◌⊎◌, inl, inr, ℕ, ◌+◌, ◌≤◌, ◌<◌, ◌^◌, Bool, false, IsTrue, List, ◌++◌, length, take, drop, slice_index, Option, Some, length-drop, Vec, sym, ◌∙◌, ap, subst, arith, take-append-drop}
use Rattle.std.proofs.lemmas.List.{length-map, take_all, map-append, drop_at, take-append-le}
use Rattle.std.specs.declared.alloc.Global.{Global}
use Rattle.dap_disk.specs.Disk.{Tells, LeavesOnly}
use Rattle.dap_disk.specs.RunLaws.{weaker}
use Rattle.report_journal.specs.Journal.{Closed, Either, Stands, IsBlock, behind}
use Rattle.report_journal.specs.Log.{contents, EachImage, IsAppended, IsLog, IsStanding}

pub stands : (b : List (List ℕ)) (q : ℕ) (c : List ℕ) → Closed b q c → Stands b c
stands b q c closed = inl (q, closed)

pub either_stands : (b k : List (List ℕ)) (q : ℕ) (c : List ℕ) → Either b k q c → Stands b c ⊎ Stands (b ++ k) c
either_stands b k q c (inl shut) = inl (inl (q, shut))
either_stands b k q c (inr is_open) = inr (inl (q + length (behind k), is_open.2))

-- the first n of what is kept, and those behind
pub both_parts : (n : ℕ) (kept : List (Vec ℕ Global)) → contents (take n kept) ++ contents (drop n kept) ≡ contents kept
both_parts n kept = sym (map-append (λ (v : Vec ℕ Global). v.items) (take n kept) (drop n kept)) ∙ ap contents (take-append-drop n kept)

module _ {D : Type 0} (holds : D → Option (List ℕ)) (is_up : D → Bool) (may_leave : D → List ℕ → Type 0) (disk : D) where
  -- all that is kept is among the records
  pub whole_log : (kept : List (Vec ℕ Global)) (n gate : ℕ) (up : Bool) → n ≡ length kept → gate < 2 ^ 64 → IsStanding holds is_up may_leave disk (contents kept) gate → IsLog holds is_up may_leave disk kept n gate 0 up
  whole_log kept n gate up is fits standing =
      let front : take n kept ≡ kept = take_all n kept (omega arith) in
      record {
        within = omega arith;
        images = λ c left. inl (subst (λ (l : List (Vec ℕ Global)). Closed (contents l) gate c) (sym front) (standing.images c left));
        sized = λ lt. absurd (omega arith);
        fits = omega arith;
        all = λ u. is;
        standing = λ u. subst (λ (l : List (Vec ℕ Global)). IsStanding holds is_up may_leave disk (contents l) gate) (sym front) standing;
      }

  -- all that is kept was appended
  pub appended_log : (kept same : List (Vec ℕ Global)) (durable n gate size : ℕ) (up : Bool) → same ≡ kept → n ≡ length kept → gate + size < 2 ^ 64 → size ≡ length (behind (contents (drop durable kept))) → IsTrue (is_up disk)
      → Tells (holds disk) (IsAppended same durable gate) → EachImage (may_leave disk) (IsAppended same durable gate) → IsLog holds is_up may_leave disk kept n (gate + size) 0 up
  appended_log kept same durable n gate size up same_is all fits sized usable held images =
      let turn : (c : List ℕ) → IsAppended same durable gate c → Closed (contents kept) (gate + size) c = λ c closed.
      subst (λ (q : ℕ). Closed (contents kept) (gate + q) c) (sym sized)
      (subst (λ (rs : List (List ℕ)). Closed rs (gate + length (behind (contents (drop durable kept)))) c) (both_parts durable kept)
      (subst (λ (l : List (Vec ℕ Global)). IsAppended l durable gate c) same_is closed)) in
      whole_log kept n (gate + size) up all fits (record { usable = usable; held = λ c told. turn c (held c told); images = λ c left. turn c (images c left) })

  -- the fate of what is in hand is open
  pub down_log : (kept : List (Vec ℕ Global)) (n gate size : ℕ) (up : Bool) → up ≡ false → n ≤ length kept → size ≡ length (behind (contents (drop n kept))) → gate + size < 2 ^ 64
      → ((c : List ℕ) → may_leave disk c → Either (contents (take n kept)) (contents (drop n kept)) gate c) → IsLog holds is_up may_leave disk kept n gate size up
  down_log kept n gate size up is_down within sized fits images = record {
    within = within;
    images = images;
    sized = λ lt. sized;
    fits = fits;
    all = λ u. absurd (cc (is_down, u));
    standing = λ u. absurd (cc (is_down, u));
  }

-- a run over the disk of a journal, as its callers see it
module _ {D : Type 0} (moment : D → ℕ) (left_since : D → ℕ → List ℕ → Type 0) where
  pub append_run : (old new : D) (kept copies now : List (Vec ℕ Global)) (records : List (List ℕ)) (n q : ℕ) → now ≡ kept ++ copies → contents copies ≡ records → n ≡ length kept
      → LeavesOnly moment left_since old new (Either (contents (take n now)) (contents (drop n now)) q)
      → LeavesOnly moment left_since old new (λ c. Stands (contents (take n kept)) c ⊎ Stands (contents (take n kept) ++ records) c)
  append_run old new kept copies now records n q is same all run =
      let front : contents (take n now) ≡ contents (take n kept) = ap (λ (l : List (Vec ℕ Global)). contents (take n l)) is ∙ ap contents (take-append-le n kept copies (omega (arith, all))) in
      let back : contents (drop n now) ≡ records = ap (λ (l : List (Vec ℕ Global)). contents (drop n l)) is ∙ ap contents (drop_at kept copies n (sym all)) ∙ same in
      weaker moment left_since old new (Either (contents (take n now)) (contents (drop n now)) q) (λ c. Stands (contents (take n kept)) c ⊎ Stands (contents (take n kept) ++ records) c)
      (λ c e.
      subst (λ (x : List (List ℕ)). Stands x c ⊎ Stands (x ++ records) c) front
      (subst (λ (y : List (List ℕ)). Stands (contents (take n now)) c ⊎ Stands (contents (take n now) ++ y) c) back (either_stands (contents (take n now)) (contents (drop n now)) q c e)))
      run

gate_within : (b k : List (List ℕ)) (q : ℕ) (c : List ℕ) → Either b k q c → q < length c
gate_within b k q c (inl shut) = shut.within
gate_within b k q c (inr is_open) = omega (arith, is_open.2.within)

gate_open : (b k : List (List ℕ)) (q : ℕ) (c : List ℕ) → Either b k q c → slice_index c q ≡ 1 → IsBlock k × Closed (b ++ k) (q + length (behind k)) c
gate_open b k q c (inl shut) is = absurd (shut.shut is)
gate_open b k q c (inr is_open) is = (is_open.1, is_open.2)

-- what a disk holds whose gate stands open after a restart
pub opened_held : (kept : List (Vec ℕ Global)) (n q size : ℕ) (held : Option (List ℕ)) (images : List ℕ → Type 0) → (n < length kept → size ≡ length (behind (contents (drop n kept))))
    → ((c : List ℕ) → images c → Either (contents (take n kept)) (contents (drop n kept)) q c) → Tells held images
    → ((c : List ℕ) → held ≡ Some c → q < length c → slice_index c q ≡ 1) → Tells held (Closed (contents kept) (q + size))
opened_held kept n q size held images sized either image told c is =
    let now = either c (image c is) in
    let whole = gate_open (contents (take n kept)) (contents (drop n kept)) q c now (told c is (gate_within (contents (take n kept)) (contents (drop n kept)) q c now)) in
    let some : 0 < length (drop n kept) = subst (λ (m : ℕ). 0 < m) (length-map (drop n kept) (λ (v : Vec ℕ Global). v.items)) whole.0.some in
    let more : n < length kept = omega (arith, length-drop n kept, some) in
    subst (λ (m : ℕ). Closed (contents kept) (q + m) c) (sym (sized more))
    (subst (λ (l : List (List ℕ)). Closed l (q + length (behind (contents (drop n kept)))) c) (both_parts n kept) whole.1)
