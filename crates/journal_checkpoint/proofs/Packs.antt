-- Packed records stand in their blocks.
use Rattle.std.proofs.Common.{◌≡◌, inl, inr, ℕ, ◌+◌, ◌-◌, ◌≤◌, ◌<◌, List, [], ◌∷◌, ◌++◌, length, get_or, take, drop, Vec, refl, sym, ◌∙◌, ap, subst, arith, append_assoc, length-append, length-take-le, length-drop, take-append-drop}
use Rattle.std.proofs.lemmas.List.{take_at, drop-drop, append-nil, map-append, take-map, length-map}
use Rattle.std.proofs.Math.Seq.{take-add}
use Rattle.std.proofs.lemmas.List.Concat.{flat_map-append}
use Rattle.std.specs.declared.alloc.Global.{Global}
use Rattle.dap_bytes.specs.declared.limits.TheConstants.{LONGEST_BLOCK}
use Rattle.report_journal.specs.Journal.{framed, body, block, blocks, IsBlock, AreBlocks, all_records, Stands}
use Rattle.report_journal.specs.Log.{contents}
use Rattle.report_journal.specs.Reading.{StandsIn}
use Rattle.journal_checkpoint.specs.Packing.{IsFull, Packs}

packed_are : (records : List (List ℕ)) (parts : List (List (List ℕ))) → Packs records parts → AreBlocks parts
packed_are records [] packs = tt
packed_are records (part ∷ parts) packs = (packs.2, packed_are packs.0 parts packs.4)

packed_hold : (records : List (List ℕ)) (parts : List (List (List ℕ))) → Packs records parts → all_records parts ≡ records
packed_hold records [] packs = sym packs
packed_hold records (part ∷ parts) packs = ap (λ (l : List (List ℕ)). part ++ l) (packed_hold packs.0 parts packs.4) ∙ sym packs.1

last_byte : (l : List ℕ) → get_or (l ++ 0 ∷ []) (length l) 0 ≡ 0
last_byte [] = refl
last_byte (x ∷ l) = last_byte l

pub packs_stand : (records : List (List ℕ)) (parts : List (List (List ℕ))) → Packs records parts → Stands records (blocks parts ++ 0 ∷ [])
packs_stand records parts packs =
    let whole = length-append (blocks parts) (0 ∷ []) in
    let last = last_byte (blocks parts) in
    inl (
      length (blocks parts),
      record {
        parts = parts;
        are = packed_are records parts packs;
        hold = packed_hold records parts packs;
        place = refl;
        front = take_at (blocks parts) (0 ∷ []) (length (blocks parts)) refl;
        within = omega (arith, whole);
        shut = λ one. omega (arith, last, one);
      },
    )

pub stands_plain : (records : List (List ℕ)) (n : ℕ) (file : List ℕ) → StandsIn records n file → Stands records file
stands_plain records n file (inl (q, closed)) = inl (q, closed.closed)
stands_plain records n file (inr none) = inr (none.0, none.2)

-- what is packed so far, and then the rest
abbrev pub PacksBefore : List (List ℕ) → List (List (List ℕ)) → List (List ℕ) → Type 0
PacksBefore records parts rest = (later : List (List (List ℕ))) → Packs rest later → Packs records (parts ++ later)

pub packs_start : (records : List (List ℕ)) → PacksBefore records [] records
packs_start records later packs = packs

pub packs_more : (records part rest whole : List (List ℕ)) (parts : List (List (List ℕ))) → PacksBefore records parts whole → whole ≡ part ++ rest → IsBlock part → IsFull part rest → PacksBefore records (parts ++ part ∷ []) rest
packs_more records part rest whole parts before is fits full later packs =
    subst (Packs records) (sym (append_assoc parts (part ∷ []) later)) (before (part ∷ later) (rest, is, fits, full, packs))

pub packs_end : (records : List (List ℕ)) (parts : List (List (List ℕ))) → PacksBefore records parts [] → Packs records parts
packs_end records parts before = subst (Packs records) (append-nil parts) (before [] refl)

pub blocks_push : (parts : List (List (List ℕ))) (part : List (List ℕ)) → blocks (parts ++ part ∷ []) ≡ blocks parts ++ block part
blocks_push parts part = flat_map-append block parts (part ∷ []) ∙ ap (λ (l : List ℕ). blocks parts ++ l) (append-nil (block part))

-- the first record fits into a block
pub first_room : (records : List (Vec ℕ Global)) (d : Vec ℕ Global) → 0 < length records → length (get_or records 0 d).items ≤ LONGEST_BLOCK - 4 → length (body (contents (take 1 records))) ≤ LONGEST_BLOCK
first_room [] d some fits = absurd (omega (arith, some))
first_room (v ∷ records) d some fits = (let whole = ap length (append-nil (framed v.items)) in omega (arith, whole, fits))

-- a block more
pub packs_step : (xs : List (Vec ℕ Global)) (at n : ℕ) (parts : List (List (List ℕ))) → PacksBefore (contents xs) parts (contents (drop at xs)) → 0 < n → n ≤ length (drop at xs)
    → length (body (contents (take n (drop at xs)))) ≤ LONGEST_BLOCK → (n < length (drop at xs) → LONGEST_BLOCK < length (body (contents (take (n + 1) (drop at xs)))))
    → PacksBefore (contents xs) (parts ++ contents (take n (drop at xs)) ∷ []) (contents (drop (at + n) xs))
packs_step xs at n parts before some within small full =
    let item : Vec ℕ Global → List ℕ = λ v. v.items in
    let rest : List (Vec ℕ Global) = drop at xs in
    let split : contents rest ≡ contents (take n rest) ++ contents (drop n rest) = ap (λ (l : List (Vec ℕ Global)). contents l) (sym (take-append-drop n rest)) ∙ map-append item (take n rest) (drop n rest) in
    let count = length-map (take n rest) item in
    let taken = length-take-le n rest within in
    let left = length-map (drop n rest) item in
    let dropped = length-drop n rest in
    let next : contents (take (n + 1) rest) ≡ contents (take n rest) ++ take 1 (contents (drop n rest)) =
    ap (λ (l : List (Vec ℕ Global)). contents l) (take-add n 1 rest) ∙ map-append item (take n rest) (take 1 (drop n rest)) ∙ ap (λ (l : List (List ℕ)). contents (take n rest) ++ l) (sym (take-map item 1 (drop n rest))) in
    let more = packs_more (contents xs) (contents (take n rest)) (contents (drop n rest)) (contents rest) parts before split (record { some = omega (arith, count, taken, some); size = small })
    (λ later. subst (λ (l : List (List ℕ)). LONGEST_BLOCK < length (body l)) next (full (omega (arith, later, left, dropped)))) in
    subst (λ (l : List (Vec ℕ Global)). PacksBefore (contents xs) (parts ++ contents (take n rest) ∷ []) (contents l)) (drop-drop n at xs) more

pub packs_next : (xs rest : List (Vec ℕ Global)) (at n : ℕ) (parts : List (List (List ℕ))) → rest ≡ drop at xs → PacksBefore (contents xs) parts (contents (drop at xs)) → 0 < n → n ≤ length rest
    → length (body (contents (take n rest))) ≤ LONGEST_BLOCK → (n < length rest → LONGEST_BLOCK < length (body (contents (take (n + 1) rest))))
    → PacksBefore (contents xs) (parts ++ contents (take n rest) ∷ []) (contents (drop (at + n) xs))
packs_next xs rest at n parts is before some =
    subst (λ (r : List (Vec ℕ Global)). n ≤ length r → length (body (contents (take n r))) ≤ LONGEST_BLOCK → (n < length r → LONGEST_BLOCK < length (body (contents (take (n + 1) r))))
    → PacksBefore (contents xs) (parts ++ contents (take n r) ∷ []) (contents (drop (at + n) xs))) (sym is) (packs_step xs at n parts before some)
