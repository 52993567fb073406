-- What an append makes of what is held and of what may be left.
use Rattle.std.proofs.Common.{◌≡◌, ℕ, ◌+◌, ◌<◌, List, [], ◌∷◌, ◌++◌, length, take, drop, Option, Result, Ok, Err, OnOk, sym, ◌∙◌, ap, subst, arith, append_assoc, length-take-le}
use Rattle.std.proofs.lemmas.List.{take-append-le, take-take, drop_at}
use Rattle.std.specs.Int.{to_be_bytes, w32}
use Rattle.dap_disk.specs.Disk.{Tells, of_told, written, Torn, Follows, Only}
use Rattle.dap_disk.specs.RunLaws.{told_before}
use Rattle.report_journal.specs.Journal.{body, block, IsBlock, Closed, Staged, behind, with_block, Either}
use Rattle.report_journal.proofs.Steps.{torn_behind, written_behind, torn_gate, written_gate}

-- from two facts of an Ok a third
pub on_ok_both : {T E P Q R : Type 0} (r : Result T E) → (P → Q → R) → OnOk r P → OnOk r Q → OnOk r R
on_ok_both (Ok x) f p q = f p q
on_ok_both (Err e) f p q = tt

module _ (b k : List (List ℕ)) (q : ℕ) where
  pub first_images : (n : ℕ) (old new : List ℕ → Type 0) → ((c : List ℕ) → old c → Closed b q c) → Follows (Torn (q + 1) n) old new → (c : List ℕ) → new c → Closed b q c
  first_images n old new was follows c left = let from = follows c left in torn_behind b q n from.0 c from.2 (was from.0 from.1)

  pub first_held : (bytes : List ℕ) (old new : Option (List ℕ)) → bytes ≡ behind k → Tells old (Closed b q) → new ≡ of_told (written (q + 1) bytes) old → Tells new (Staged b k q)
  first_held bytes old new is was done c holds =
      let from = told_before (written (q + 1) bytes) old c (sym done ∙ holds) in
      subst (Staged b k q) (sym from.2) (written_behind b q k bytes from.0 is (was from.0 from.1))

  pub only_held : (held : Option (List ℕ)) (images P : List ℕ → Type 0) → Tells held P → Only held images → (c : List ℕ) → images c → P c
  only_held held images P told only c left = told c (only c left)

  pub second_images : (old new : List ℕ → Type 0) → IsBlock k → ((c : List ℕ) → old c → Staged b k q c) → Follows (Torn q 1) old new → (c : List ℕ) → new c → Either b k q c
  second_images old new is was follows c left = let from = follows c left in torn_gate b q k from.0 c is from.2 (was from.0 from.1)

  pub second_held : (old new : Option (List ℕ)) → IsBlock k → Tells old (Staged b k q) → new ≡ of_told (written q (1 ∷ [])) old → Tells new (Closed (b ++ k) (q + length (behind k)))
  second_held old new is was done c holds =
      let from = told_before (written q (1 ∷ [])) old c (sym done ∙ holds) in
      subst (Closed (b ++ k) (q + length (behind k))) (sym from.2) (written_gate b q k from.0 is (was from.0 from.1))

-- the two writes of an append are one of the block and the next gate
pub both_writes : (k : List (List ℕ)) (q : ℕ) (c : List ℕ) → q < length c → written q (1 ∷ []) (written (q + 1) (behind k) c) ≡ with_block q k c
both_writes k q c lt =
    let rest = drop (q + 1 + length (behind k)) c in
    let d = written (q + 1) (behind k) c in
    let long : length (take (q + 1) c) ≡ q + 1 = length-take-le (q + 1) c (omega (arith, lt)) in
    let front : take q d ≡ take q c = take-append-le q (take (q + 1) c) (behind k ++ rest) (omega (arith, long)) ∙ take-take q (q + 1) c (omega arith) in
    let back : drop (q + 1) d ≡ behind k ++ rest = drop_at (take (q + 1) c) (behind k ++ rest) (q + 1) long in
    let whole : block k ++ 0 ∷ [] ≡ 1 ∷ behind k = ap (λ (l : List ℕ). 1 ∷ l) (append_assoc (to_be_bytes w32 (length (body k))) (body k) (0 ∷ [])) in
    let end : q + 1 + length (behind k) ≡ q + length (1 ∷ behind k) = omega arith in
    ap (λ (l : List ℕ). l ++ (1 ∷ drop (q + 1) d)) front ∙ ap (λ (l : List ℕ). take q c ++ (1 ∷ l)) back
    ∙ ap (λ (n : ℕ). take q c ++ (1 ∷ (behind k ++ drop n c))) end
    ∙ ap (λ (l : List ℕ). written q l c) (sym whole)
