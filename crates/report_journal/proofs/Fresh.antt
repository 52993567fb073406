-- Files of one byte at most stand for no records.
use Rattle.std.proofs.Common.{◌≡◌, ◌⊎◌, inl, inr, ℕ, ◌≤◌, List, [], ◌∷◌, length, Option, Some, None, refl, sym, ◌∙◌, ap, subst, arith}
use Rattle.std.proofs.lemmas.List.{nil_from_length}
use Rattle.dap_disk.specs.Disk.{Elapses, LeavesOnly, NoMore, Tells, of_told, written}
use Rattle.dap_disk.specs.RunLaws.{started, kept, then, weaker}
use Rattle.report_journal.specs.Journal.{blocks, all_records, Stands}
use Rattle.report_journal.specs.Reading.{SameRecords}

no_parts : (parts : List (List (List ℕ))) → length (blocks parts) ≡ 0 → all_records parts ≡ []
no_parts [] is = refl
no_parts (b ∷ parts) is = absurd (omega (arith, is))

pub small_none : (rs : List (List ℕ)) (e : List ℕ) → length e ≤ 1 → Stands rs e → rs ≡ []
small_none rs e small (inl closed) =
    let c = closed.1 in
    sym c.hold ∙ no_parts c.parts (let here = c.place in let lt = c.within in omega (arith, here, lt, small))
small_none rs e small (inr none) = none.0

pub small_same : (held : Option (List ℕ)) (c : List ℕ) → Tells held (λ e. length e ≤ 1) → length c ≤ 1 → SameRecords held c
small_same held c told small e is rs stands = inr (small_none rs e (told e is) stands, small)

pub held_same : (held : Option (List ℕ)) (c : List ℕ) → held ≡ Some c → SameRecords held c
held_same held c is e now rs stands = let same : e ≡ c = cc (is, now) in subst (Stands rs) same stands

-- what is told of an empty file is that it is empty
pub cleared : (held : Option (List ℕ)) → Tells held (λ c. length c ≡ 0) → held ≡ of_told (λ _. []) held
cleared None empty = refl
cleared (Some c) empty = ap Some (nil_from_length c (empty c refl))

-- the first gate stands alone in a file that was cleared
pub first_gate : (old mid new : Option (List ℕ)) → mid ≡ of_told (λ _. []) old → new ≡ of_told (written 0 (0 ∷ [])) mid → new ≡ of_told (λ _. 0 ∷ []) old
first_gate None mid new clear done = done ∙ ap (of_told (written 0 (0 ∷ []))) clear
first_gate (Some c) mid new clear done = done ∙ ap (of_told (written 0 (0 ∷ []))) clear

-- a sync, a reading and a making, where the file is short
pub made_moments : {D : Type 0} (moment : D → ℕ) (left_since : D → ℕ → List ℕ → Type 0) (may_leave : D → List ℕ → Type 0) (held : Option (List ℕ)) (old synced read new : D)
    → ((c : List ℕ) → left_since old (moment old) c → may_leave old c)
    → NoMore (may_leave old) (may_leave synced) → Elapses (moment old) (moment synced) (left_since old) (left_since synced) (may_leave synced)
    → LeavesOnly moment left_since synced read (may_leave synced)
    → Tells held (λ c. length c ≤ 1) → LeavesOnly moment left_since read new (λ c. length c ≤ 1)
    → LeavesOnly moment left_since old new (λ c. may_leave old c ⊎ SameRecords held c)
made_moments moment left_since may_leave held old synced read new only_now no_more time reading small making =
    let P : List ℕ → Type 0 = λ c. may_leave old c ⊎ SameRecords held c in
    let sync = kept moment left_since may_leave old old synced P (started moment left_since old P (λ c left. inl (only_now c left))) (λ c left. inl left) no_more time in
    let so_far = then moment left_since old synced read P sync (weaker moment left_since synced read (may_leave synced) P (λ c left. inl (no_more c left)) reading) in
    then moment left_since old read new P so_far (weaker moment left_since read new (λ c. length c ≤ 1) P (λ c few. inr (small_same held c small few)) making)
