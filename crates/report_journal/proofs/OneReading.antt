-- A file stands for one list of records at most, or is no journal.
use Rattle.std.proofs.Common.{◌≡◌, ◌≢◌, inl, inr, ℕ, ◌+◌, ◌≤◌, ◌<◌, ◌^◌, List, [], ◌∷◌, ◌++◌, length, get_or, take, drop, refl, sym, ◌∙◌, ap, arith, append_assoc, length-append, length-drop, take-append-drop}
use Rattle.std.proofs.lemmas.List.{take_at, drop_at, get_or-drop}
use Rattle.std.specs.Int.{to_be_bytes, w32}
use Rattle.report_journal.specs.Journal.{framed, body, block, blocks, all_records, IsBlock, AreBlocks, Closed, Stands, NoJournal}
use Rattle.report_journal.specs.Laws.{OneReading}
use Rattle.report_journal.specs.Reading.{ClosedIn, StandsIn}
use Rattle.report_journal.proofs.Fresh.{small_none}
use Rattle.report_journal.proofs.Splits.{same_number, same_framed}

length-framed : (r : List ℕ) → length (framed r) ≡ 4 + length r
length-framed r = omega arith

-- the same bytes are the same records
same_body : (k m : List (List ℕ)) → length (body k) < 2 ^ 32 → body k ≡ body m → k ≡ m
same_body [] [] small is = refl
same_body [] (r ∷ m) small is = absurd (omega (arith, ap length is))
same_body (r ∷ k) [] small is = absurd (omega (arith, ap length is))
same_body (r ∷ k) (s ∷ m) small is =
    let size = ap length is in
    let left = length-append (framed r) (body k) in
    let right = length-append (framed s) (body m) in
    let fr = length-framed r in
    let fs = length-framed s in
    let both = same_framed r s (body k) (body m) (omega (arith, small, left, fr)) (omega (arith, small, size, left, right, fs)) is in
    let later = same_body k m (omega (arith, small, left)) both.1 in
    (λ i. both.0 i ∷ later i)

-- the same blocks with what is behind them
same_block : (k m : List (List ℕ)) (x y : List ℕ) → IsBlock k → IsBlock m → block k ++ x ≡ block m ++ y → (k ≡ m) × (x ≡ y)
same_block k m x y isk ism is =
    let sk = isk.size in
    let sm = ism.size in
    let behind : to_be_bytes w32 (length (body k)) ++ (body k ++ x) ≡ to_be_bytes w32 (length (body m)) ++ (body m ++ y) = ap (λ (l : List ℕ). drop 1 l) is in
    let size = same_number (length (body k)) (length (body m)) (body k ++ x) (body m ++ y) (omega (arith, sk)) (omega (arith, sm)) behind in
    let rest : body k ++ x ≡ body m ++ y = ap (λ (l : List ℕ). drop 4 l) behind in
    let same : body k ≡ body m = sym (take_at (body k) x (length (body k)) refl) ∙ ap (λ (l : List ℕ). take (length (body k)) l) rest ∙ take_at (body m) y (length (body k)) (sym size) in (
      same_body k m (omega (arith, sk)) same,
      sym (drop_at (body k) x (length (body k)) refl) ∙ ap (λ (l : List ℕ). drop (length (body k)) l) rest ∙ drop_at (body m) y (length (body k)) (sym size),
    )

-- what stands behind blocks begins with no open gate
abbrev Shut : List ℕ → Type 0
Shut x = (0 < length x) × (get_or x 0 0 ≢ 1)

same_parts : (ps qs : List (List (List ℕ))) (x y : List ℕ) → AreBlocks ps → AreBlocks qs → Shut x → Shut y → blocks ps ++ x ≡ blocks qs ++ y → ps ≡ qs
same_parts [] [] x y are are' shut shut' is = refl
same_parts [] (q ∷ qs) x y are are' shut shut' is = absurd (shut.1 (ap (λ (l : List ℕ). get_or l 0 0) is))
same_parts (p ∷ ps) [] x y are are' shut shut' is = absurd (shut'.1 (sym (ap (λ (l : List ℕ). get_or l 0 0) is)))
same_parts (p ∷ ps) (q ∷ qs) x y are are' shut shut' is =
    let both = same_block p q (blocks ps ++ x) (blocks qs ++ y) are.0 are'.0 (sym (append_assoc (block p) (blocks ps) x) ∙ is ∙ append_assoc (block q) (blocks qs) y) in
    let later = same_parts ps qs x y are.1 are'.1 shut shut' both.1 in
    (λ i. both.0 i ∷ later i)

behind_shut : (rs : List (List ℕ)) (q : ℕ) (c : List ℕ) → Closed rs q c → Shut (drop q c)
behind_shut rs q c closed = (let size = length-drop q c in omega (arith, size, closed.within), λ is. closed.shut (sym (get_or_drop_first q c) ∙ is))
  where
    get_or_drop_first : (q : ℕ) (c : List ℕ) → get_or (drop q c) 0 0 ≡ get_or c q 0
    get_or_drop_first q c = get_or-drop q c 0 0 ∙ ap (λ (n : ℕ). get_or c n 0) (omega arith)

whole : (rs : List (List ℕ)) (q : ℕ) (c : List ℕ) → (closed : Closed rs q c) → blocks closed.parts ++ drop q c ≡ c
whole rs q c closed = ap (λ (l : List ℕ). l ++ drop q c) (sym closed.front) ∙ take-append-drop q c

pub closed_once : (rs rs' : List (List ℕ)) (q q' : ℕ) (c : List ℕ) → Closed rs q c → Closed rs' q' c → rs ≡ rs'
closed_once rs rs' q q' c closed closed' =
    let same = same_parts closed.parts closed'.parts (drop q c) (drop q' c) closed.are closed'.are (behind_shut rs q c closed) (behind_shut rs' q' c closed')
    (whole rs q c closed ∙ sym (whole rs' q' c closed')) in
    sym closed.hold ∙ ap all_records same ∙ closed'.hold

-- a file with an open gate and no block behind it has no shut gate behind blocks
apart : (ps qs : List (List (List ℕ))) (x y : List ℕ) → AreBlocks ps → AreBlocks qs → Shut x → get_or y 0 0 ≡ 1 → ((k : List (List ℕ)) (more : List ℕ) → IsBlock k → y ≡ block k ++ more → more ≡ []) → blocks ps ++ x ≡ blocks qs ++ y → ⊥
apart [] [] x y are are' shut gate none is = shut.1 (ap (λ (l : List ℕ). get_or l 0 0) is ∙ gate)
apart [] (q ∷ qs) x y are are' shut gate none is = shut.1 (ap (λ (l : List ℕ). get_or l 0 0) is)
apart (p ∷ ps) [] x y are are' shut gate none is =
    let rest = none p (blocks ps ++ x) are.0 (sym is ∙ append_assoc (block p) (blocks ps) x) in
    let size = ap length rest in
    let both = length-append (blocks ps) x in
    omega (arith, size, both, shut.0)
apart (p ∷ ps) (q ∷ qs) x y are are' shut gate none is =
    let both = same_block p q (blocks ps ++ x) (blocks qs ++ y) are.0 are'.0 (sym (append_assoc (block p) (blocks ps) x) ∙ is ∙ append_assoc (block q) (blocks qs) y) in
    apart ps qs x y are.1 are'.1 shut gate none both.1

pub stands_or_none : (rs : List (List ℕ)) (q : ℕ) (c : List ℕ) → Stands rs c → NoJournal q c → ⊥
stands_or_none rs q c (inl closed) broken =
    let whole_no : blocks broken.parts ++ drop q c ≡ c = ap (λ (l : List ℕ). l ++ drop q c) (sym broken.front) ∙ take-append-drop q c in
    apart closed.1.parts broken.parts (drop closed.0 c) (drop q c) closed.1.are broken.are (behind_shut rs closed.0 c closed.1)
    (get_or-drop q c 0 0 ∙ ap (λ (n : ℕ). get_or c n 0) (let z : q + 0 ≡ q = omega arith in z) ∙ broken.gate) broken.none (whole rs closed.0 c closed.1 ∙ sym whole_no)
stands_or_none rs q c (inr small) broken = omega (arith, small.1, broken.longer)

pub stands_once : (rs rs' : List (List ℕ)) (c : List ℕ) → Stands rs c → Stands rs' c → rs ≡ rs'
stands_once rs rs' c (inl a) (inl b) = closed_once rs rs' a.0 b.0 c a.1 b.1
stands_once rs rs' c (inl a) (inr b) = small_none rs c b.1 (inl a) ∙ sym b.0
stands_once rs rs' c (inr a) (inl b) = a.0 ∙ sym (small_none rs' c a.1 (inl b))
stands_once rs rs' c (inr a) (inr b) = a.0 ∙ sym b.0

-- a place with an open gate and no block is one place
same_place : (ps qs : List (List (List ℕ))) (x y : List ℕ) → AreBlocks ps → AreBlocks qs → 0 < length x → 0 < length y → ((k : List (List ℕ)) (more : List ℕ) → IsBlock k → x ≡ block k ++ more → more ≡ [])
    → ((k : List (List ℕ)) (more : List ℕ) → IsBlock k → y ≡ block k ++ more → more ≡ []) → blocks ps ++ x ≡ blocks qs ++ y → length (blocks ps) ≡ length (blocks qs)
same_place [] [] x y are are' some some' none none' is = refl
same_place [] (q ∷ qs) x y are are' some some' none none' is =
    let rest = none q (blocks qs ++ y) are'.0 (is ∙ append_assoc (block q) (blocks qs) y) in
    absurd (omega (arith, ap length rest, length-append (blocks qs) y, some'))
same_place (p ∷ ps) [] x y are are' some some' none none' is =
    let rest = none' p (blocks ps ++ x) are.0 (sym is ∙ append_assoc (block p) (blocks ps) x) in
    absurd (omega (arith, ap length rest, length-append (blocks ps) x, some))
same_place (p ∷ ps) (q ∷ qs) x y are are' some some' none none' is =
    let both = same_block p q (blocks ps ++ x) (blocks qs ++ y) are.0 are'.0 (sym (append_assoc (block p) (blocks ps) x) ∙ is ∙ append_assoc (block q) (blocks qs) y) in
    let later = same_place ps qs x y are.1 are'.1 some some' none none' both.1 in
    let front : length (block p) ≡ length (block q) = ap (λ (k : List (List ℕ)). length (block k)) both.0 in
    length-append (block p) (blocks ps) ∙ (omega (arith, later, front)) ∙ sym (length-append (block q) (blocks qs))

rest_some : (q : ℕ) (c : List ℕ) → q < length c → 0 < length (drop q c)
rest_some q c lt = omega (arith, length-drop q c, lt)

whole_broken : (q : ℕ) (c : List ℕ) → (broken : NoJournal q c) → blocks broken.parts ++ drop q c ≡ c
whole_broken q c broken = ap (λ (l : List ℕ). l ++ drop q c) (sym broken.front) ∙ take-append-drop q c

none_once : (q q' : ℕ) (c : List ℕ) → NoJournal q c → NoJournal q' c → q ≡ q'
none_once q q' c a b =
    sym a.place
    ∙ same_place a.parts b.parts (drop q c) (drop q' c) a.are b.are (rest_some q c a.within) (rest_some q' c b.within) a.none b.none (whole_broken q c a ∙ sym (whole_broken q' c b))
    ∙ b.place

no_blocks : (parts : List (List (List ℕ))) → length (blocks parts) ≡ 0 → length parts ≡ 0
no_blocks [] is = refl
no_blocks (p ∷ parts) is = absurd (omega (arith, is))

few_blocks : (rs : List (List ℕ)) (q n : ℕ) (c : List ℕ) → ClosedIn rs q n c → length c ≤ 1 → n ≡ 0
few_blocks rs q n c counted short =
    let closed = counted.closed in
    sym counted.count ∙ no_blocks closed.parts (omega (arith, closed.place, closed.within, short))

count_once : (n n' : ℕ) (rs rs' : List (List ℕ)) (c : List ℕ) → StandsIn rs n c → StandsIn rs' n' c → n ≡ n'
count_once n n' rs rs' c (inl a) (inl b) =
    let x = a.1.closed in
    let y = b.1.closed in
    sym a.1.count
    ∙ ap length (same_parts x.parts y.parts (drop a.0 c) (drop b.0 c) x.are y.are (behind_shut rs a.0 c x) (behind_shut rs' b.0 c y) (whole rs a.0 c x ∙ sym (whole rs' b.0 c y)))
    ∙ b.1.count
count_once n n' rs rs' c (inl a) (inr b) = few_blocks rs a.0 n c a.1 b.2 ∙ sym b.1
count_once n n' rs rs' c (inr a) (inl b) = a.1 ∙ sym (few_blocks rs' b.0 n' c b.1 a.2)
count_once n n' rs rs' c (inr a) (inr b) = a.1 ∙ sym b.1

pub one_reading : OneReading
one_reading = record { once = stands_once; place = none_once; apart = stands_or_none; count = count_once }
