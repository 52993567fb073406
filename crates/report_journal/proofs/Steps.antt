-- What each write of an append leaves of the file.
use Rattle.std.proofs.Common.{◌≡◌, inl, inr, ℕ, suc, ◌+◌, ◌-◌, ◌<◌, min, List, [], ◌∷◌, ◌++◌, length, take, drop, get_or, sym, ◌∙◌, ap, arith, append_assoc, length-append, length-take, length-drop}
use Rattle.std.proofs.lemmas.List.{take_at, drop_at, drop_more, take-take, get_or-take, get_or-drop, get_or_at, length-take-le, append-nil}
use Rattle.std.proofs.lemmas.List.Concat.{flat_map-append}
use Rattle.std.proofs.Math.Seq.{take-add}
use Rattle.std.proofs.lemmas.Bool.{cases_eq}
use Rattle.std.specs.Int.{to_be_bytes, w32}
use Rattle.dap_disk.specs.Disk.{Torn, written}
use Rattle.report_journal.specs.Journal.{body, block, blocks, all_records, IsBlock, AreBlocks, Closed, Staged, behind, Either}

pub length-behind : (k : List (List ℕ)) → length (behind k) ≡ 5 + length (body k)
length-behind k = omega (arith, length-append (body k) (0 ∷ []))

pub length-block : (k : List (List ℕ)) → length (block k) ≡ 5 + length (body k)
length-block k = omega arith

pub are_push : (parts : List (List (List ℕ))) (k : List (List ℕ)) → AreBlocks parts → IsBlock k → AreBlocks (parts ++ k ∷ [])
are_push [] k are is = (is, tt)
are_push (p ∷ parts) k are is = (are.0, are_push parts k are.1 is)

pub blocks_push : (parts : List (List (List ℕ))) (k : List (List ℕ)) → blocks (parts ++ k ∷ []) ≡ blocks parts ++ block k
blocks_push parts k = flat_map-append block parts (k ∷ []) ∙ ap (λ (l : List ℕ). blocks parts ++ l) (append-nil (block k))

pub records_push : (parts : List (List (List ℕ))) (k : List (List ℕ)) → all_records (parts ++ k ∷ []) ≡ all_records parts ++ k
records_push parts k = flat_map-append (λ (r : List (List ℕ)). r) parts (k ∷ []) ∙ ap (λ (l : List (List ℕ)). all_records parts ++ l) (append-nil k)

module _ (b : List (List ℕ)) (q : ℕ) where
  -- the same up to the gate
  pub closed_front : (c d : List ℕ) → take (q + 1) c ≡ take (q + 1) d → q < length c → Closed b q d → Closed b q c
  closed_front c d same within closed = record {
    parts = closed.parts;
    are = closed.are;
    hold = closed.hold;
    place = closed.place;
    front = sym (take-take q (q + 1) c (omega arith)) ∙ ap (λ (l : List ℕ). take q l) same ∙ take-take q (q + 1) d (omega arith) ∙ closed.front;
    within = within;
    shut = λ is. closed.shut (sym (get_or-take (q + 1) d q 0 (omega arith)) ∙ ap (λ (l : List ℕ). get_or l q 0) (sym same) ∙ get_or-take (q + 1) c q 0 (omega arith) ∙ is);
  }

  pub torn_behind : (n : ℕ) (d c : List ℕ) → Torn (q + 1) n d c → Closed b q d → Closed b q c
  torn_behind n d c torn closed = closed_front c d torn.before (omega (arith, torn.no_shorter, closed.within)) closed

  module _ (k : List (List ℕ)) where
    pub written_behind : (bytes d : List ℕ) → bytes ≡ behind k → Closed b q d → Staged b k q (written (q + 1) bytes d)
    written_behind bytes d is closed =
        let rest = drop (q + 1 + length bytes) d in
        let long : length (take (q + 1) d) ≡ q + 1 = length-take-le (q + 1) d (omega (arith, closed.within)) in
        let same : take (q + 1) (written (q + 1) bytes d) ≡ take (q + 1) d = take_at (take (q + 1) d) (bytes ++ rest) (q + 1) long in
        let size : length (written (q + 1) bytes d) ≡ q + 1 + length (bytes ++ rest) = length-append (take (q + 1) d) (bytes ++ rest) ∙ ap (λ (n : ℕ). n + length (bytes ++ rest)) long in
        record {
          closed = closed_front (written (q + 1) bytes d) d same (omega (arith, size)) closed;
          there =
              ap (λ (l : List ℕ). take (length (behind k)) l) (drop_at (take (q + 1) d) (bytes ++ rest) (q + 1) long)
              ∙ take_at bytes rest (length (behind k)) (ap length is) ∙ is;
        }

    -- Behind a gate that stands open the block is whole.
    pub opened : (d c : List ℕ) → IsBlock k → Staged b k q d → take q c ≡ take q d → drop (q + 1) c ≡ drop (q + 1) d → q < length c → get_or c q 0 ≡ 1 → Closed (b ++ k) (q + length (behind k)) c
    opened d c is staged front back within gate =
        let n = length (behind k) in
        let n_is : n ≡ 5 + length (body k) = length-behind k in
        let there : take n (drop (q + 1) c) ≡ behind k = ap (λ (l : List ℕ). take n l) back ∙ staged.there in
        let long : min n (length c - (q + 1)) ≡ n = ap (λ (m : ℕ). min n m) (sym (length-drop (q + 1) c)) ∙ sym (length-take n (drop (q + 1) c)) ∙ ap length there in
        let cut : take (4 + length (body k)) (drop (q + 1) c) ≡ to_be_bytes w32 (length (body k)) ++ body k =
        sym (take-take (4 + length (body k)) n (drop (q + 1) c) (omega (arith, n_is))) ∙ ap (λ (l : List ℕ). take (4 + length (body k)) l) there
        ∙ ap (λ (l : List ℕ). take (4 + length (body k)) l) (sym (append_assoc (to_be_bytes w32 (length (body k))) (body k) (0 ∷ [])))
        ∙ take_at (to_be_bytes w32 (length (body k)) ++ body k) (0 ∷ []) (4 + length (body k)) (length-append (to_be_bytes w32 (length (body k))) (body k)) in
        let at_gate : drop q c ≡ 1 ∷ drop (q + 1) c = drop_more c q 0 within ∙ ap (λ (g : ℕ). g ∷ drop (q + 1) c) gate in
        let whole : take n (drop q c) ≡ block k =
        ap (λ (m : ℕ). take m (drop q c)) (let five : n ≡ suc (4 + length (body k)) = omega (arith, n_is) in five) ∙ ap (λ (l : List ℕ). take (suc (4 + length (body k))) l) at_gate ∙ ap (λ (l : List ℕ). 1 ∷ l) cut in
        let last : get_or c (q + n) 0 ≡ 0 =
        ap (λ (m : ℕ). get_or c m 0) (omega (arith, n_is)) ∙ sym (get_or-drop (q + 1) c (4 + length (body k)) 0)
        ∙ sym (get_or-take n (drop (q + 1) c) (4 + length (body k)) 0 (omega (arith, n_is))) ∙ ap (λ (l : List ℕ). get_or l (4 + length (body k)) 0) there
        ∙ ap (λ (l : List ℕ). get_or l (4 + length (body k)) 0) (sym (append_assoc (to_be_bytes w32 (length (body k))) (body k) (0 ∷ [])))
        ∙ get_or_at (to_be_bytes w32 (length (body k)) ++ body k) 0 [] 0 (4 + length (body k)) (length-append (to_be_bytes w32 (length (body k))) (body k)) in
        record {
          parts = staged.closed.parts ++ k ∷ [];
          are = are_push staged.closed.parts k staged.closed.are is;
          hold = records_push staged.closed.parts k ∙ ap (λ (l : List (List ℕ)). l ++ k) staged.closed.hold;
          place = ap length (blocks_push staged.closed.parts k) ∙ length-append (blocks staged.closed.parts) (block k) ∙ (let here = staged.closed.place in omega (arith, here, n_is));
          front = take-add q n c ∙ ap (λ (l : List ℕ). l ++ take n (drop q c)) (front ∙ staged.closed.front) ∙ ap (λ (l : List ℕ). blocks staged.closed.parts ++ l) whole ∙ sym (blocks_push staged.closed.parts k);
          within = omega (arith, long, n_is);
          shut = λ is_open. absurd (cc (last, is_open));
        }

    -- the same but for the gate
    pub moved : (d c : List ℕ) → IsBlock k → Staged b k q d → take q c ≡ take q d → drop (q + 1) c ≡ drop (q + 1) d → q < length c → Either b k q c
    moved d c is staged front back within = elim (cases_eq (get_or c q 0) 1) [
      | inl gate ↦ inr (gate, is, opened d c is staged front back within gate)
      | inr shut ↦ inl (record {
        parts = staged.closed.parts;
        are = staged.closed.are;
        hold = staged.closed.hold;
        place = staged.closed.place;
        front = front ∙ staged.closed.front;
        within = within;
        shut = shut;
      })
    ]

    pub torn_gate : (d c : List ℕ) → IsBlock k → Torn q 1 d c → Staged b k q d → Either b k q c
    torn_gate d c is torn staged = moved d c is staged torn.before torn.after (omega (arith, torn.no_shorter, staged.closed.within))

    pub written_gate : (d : List ℕ) → IsBlock k → Staged b k q d → Closed (b ++ k) (q + length (behind k)) (written q (1 ∷ []) d)
    written_gate d is staged =
        let rest = drop (q + 1) d in
        let long : length (take q d) ≡ q = length-take-le q d (omega (arith, staged.closed.within)) in
        let size : length (written q (1 ∷ []) d) ≡ q + length (1 ∷ rest) = length-append (take q d) (1 ∷ rest) ∙ ap (λ (n : ℕ). n + length (1 ∷ rest)) long in
        opened d (written q (1 ∷ []) d) is staged
        (take_at (take q d) (1 ∷ rest) q long)
        (ap (λ (l : List ℕ). drop (q + 1) l) (sym (append_assoc (take q d) (1 ∷ []) rest)) ∙ drop_at (take q d ++ 1 ∷ []) rest (q + 1) (length-append (take q d) (1 ∷ []) ∙ ap (λ (n : ℕ). n + 1) long))
        (omega (arith, size))
        (get_or_at (take q d) 1 rest 0 q long)
