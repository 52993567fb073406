-- The words of a line: as many as it has, and each of its characters.
use Rattle.std.proofs.Common.{◌≡◌, ℕ, ◌+◌, ◌-◌, ◌≤◌, List, [], ◌∷◌, ◌++◌, map, take, drop, Bool, true, nat_eq, length, Some, refl, sym, ap, ◌∙◌, suc, inl, inr, arith}
use Rattle.std.proofs.lemmas.Bool.{cases_Bool, eqb-true}
use Rattle.std.proofs.lemmas.List.Elements.{All-cons, All-head, All-nil, All-tail}
use Rattle.std.proofs.lemmas.List.FromFn.{fill_by_all}
use Rattle.std.proofs.lemmas.List.Splits.{slice_split-cons_no, slice_split-cons_yes}
use Rattle.std.proofs.lemmas.List.{append_assoc, get_or-append_right, length-append, take_all, take_at, take_more}
use Rattle.std.proofs.lemmas.Option.{cond_some}
use Rattle.std.specs.List.{All, onto_first, range_with_len, slice_split}
use Rattle.dap_bytes.specs.Name.{IsName, is_name, name_of}
use Rattle.dap_script.specs.Words.{word}

pub All-left : {X : Type 0} (P : X → Type 0) (xs ys : List X) → All P (xs ++ ys) → All P xs
All-left P [] ys h = All-nil P
All-left P (x ∷ xs) ys h = All-cons P x xs (All-head P x (xs ++ ys) h) (All-left P xs ys (All-tail P x (xs ++ ys) h))

pub All-right : {X : Type 0} (P : X → Type 0) (xs ys : List X) → All P (xs ++ ys) → All P ys
All-right P [] ys h = h
All-right P (x ∷ xs) ys h = All-right P xs ys (All-tail P x (xs ++ ys) h)

All-onto_first : {X : Type 0} (P : X → Type 0) (x : X) (parts : List (List X)) → P x → All (All P) parts → All (All P) (onto_first x parts)
All-onto_first P x [] p h = All-cons (All P) (x ∷ []) [] (All-cons P x [] p (All-nil P)) (All-nil (All P))
All-onto_first P x (part ∷ parts) p h =
    All-cons (All P) (x ∷ part) parts (All-cons P x part p (All-head (All P) part parts h)) (All-tail (All P) part parts h)

-- what holds of a text's characters holds of its parts'
pub All-slice_split : {X : Type 0} (P : X → Type 0) (cuts : X → Bool) (xs : List X) → All P xs → All (All P) (slice_split cuts xs)
All-slice_split P cuts [] h = All-cons (All P) [] [] (All-nil P) (All-nil (All P))
All-slice_split P cuts (x ∷ xs) h =
    let more = All-slice_split P cuts xs (All-tail P x xs h) in
    elim (cases_Bool (cuts x)) [
      | inl cut ↦ rw (slice_split-cons_yes cuts x xs cut) (All-cons (All P) [] (slice_split cuts xs) (All-nil P) more)
      | inr whole ↦ rw (slice_split-cons_no cuts x xs whole) (All-onto_first P x (slice_split cuts xs) (All-head P x xs h) more)
    ]

pub name_spelled : (text name : List ℕ) → name_of text ≡ Some name → (text ≡ name) × IsName name
name_spelled text name h =
    let p = cond_some (is_name text) text name h in
    (p.1, rw (← p.1) p.0)

pub name_of-itself : (name : List ℕ) → IsName name → name_of name ≡ Some name
name_of-itself name h = rw h refl

-- as many fields as it has
pub listed : (n : ℕ) (fields : List (List ℕ)) → nat_eq (length fields) n ≡ true → fields ≡ map (word fields) (range_with_len 0 n)
listed n fields h = fill_by_all (word fields) fields n [] (eqb-true (length fields) n h) (λ k lt. refl)

-- the last two and those before them
pub two_last : (fields : List (List ℕ)) → 2 ≤ length fields
    → fields ≡ take (length fields - 2) fields ++ word fields (length fields - 2) ∷ word fields (length fields - 1) ∷ []
two_last fields h =
    let next : length fields - 2 + 1 ≡ length fields - 1 = omega arith in
    let front = take_more fields (length fields - 2) [] (omega arith) in
    let whole = take_more fields (length fields - 2 + 1) [] (omega arith) in
    sym (take_all (length fields - 2 + 1 + 1) fields (omega arith)) ∙ whole
    ∙ ap (λ (t : List (List ℕ)). t ++ word fields (length fields - 2 + 1) ∷ []) front
    ∙ append_assoc (take (length fields - 2) fields) (word fields (length fields - 2) ∷ []) (word fields (length fields - 2 + 1) ∷ [])
    ∙ ap (λ i. take (length fields - 2) fields ++ word fields (length fields - 2) ∷ word fields i ∷ []) next

-- the first, the last two and those between them
pub cut_fields : (fields : List (List ℕ)) → 3 ≤ length fields
    → fields ≡ word fields 0 ∷ take (length fields - 3) (drop 1 fields) ++ word fields (length fields - 2) ∷ word fields (length fields - 1) ∷ []
cut_fields [] h = absurd (omega arith)
cut_fields (name ∷ rest) h =
    let second : length (name ∷ rest) - 2 ≡ suc (length rest - 2) = omega arith in
    let last : length (name ∷ rest) - 1 ≡ suc (length rest - 1) = omega arith in
    let middle : length (name ∷ rest) - 3 ≡ length rest - 2 = omega arith in
    rw (second, last, middle) (ap (λ (r : List (List ℕ)). name ∷ r) (two_last rest (omega arith)))

-- the fields of a task line by their parts
pub middle_fields : (name : List ℕ) (middle : List (List ℕ)) (a b : List ℕ)
    → take (length (name ∷ middle ++ a ∷ b ∷ []) - 3) (drop 1 (name ∷ middle ++ a ∷ b ∷ [])) ≡ middle
middle_fields name middle a b =
    take_at middle (a ∷ b ∷ []) (length (name ∷ middle ++ a ∷ b ∷ []) - 3) (omega (arith, length-append middle (a ∷ b ∷ [])))

pub second_last_field : (name : List ℕ) (middle : List (List ℕ)) (a b : List ℕ)
    → word (name ∷ middle ++ a ∷ b ∷ []) (length (name ∷ middle ++ a ∷ b ∷ []) - 2) ≡ a
second_last_field name middle a b =
    let at : length (name ∷ middle ++ a ∷ b ∷ []) - 2 ≡ length (name ∷ middle) = omega (arith, length-append middle (a ∷ b ∷ [])) in
    let none : length (name ∷ middle) - length (name ∷ middle) ≡ 0 = omega arith in
    ap (word (name ∷ middle ++ a ∷ b ∷ [])) at
    ∙ get_or-append_right (name ∷ middle) (a ∷ b ∷ []) (length (name ∷ middle)) (length (name ∷ middle)) [] refl (omega arith)
    ∙ ap (word (a ∷ b ∷ [])) none

pub last_field : (name : List ℕ) (middle : List (List ℕ)) (a b : List ℕ)
    → word (name ∷ middle ++ a ∷ b ∷ []) (length (name ∷ middle ++ a ∷ b ∷ []) - 1) ≡ b
last_field name middle a b =
    let at : length (name ∷ middle ++ a ∷ b ∷ []) - 1 ≡ length (name ∷ middle) + 1 = omega (arith, length-append middle (a ∷ b ∷ [])) in
    let one : length (name ∷ middle) + 1 - length (name ∷ middle) ≡ 1 = omega arith in
    ap (word (name ∷ middle ++ a ∷ b ∷ [])) at
    ∙ get_or-append_right (name ∷ middle) (a ∷ b ∷ []) (length (name ∷ middle)) (length (name ∷ middle) + 1) [] refl (omega arith)
    ∙ ap (word (a ∷ b ∷ [])) one
