-- Splitting what was joined gives the parts again.
use Rattle.std.proofs.Common.{◌≡◌, ℕ, ◌<◌, List, [], ◌∷◌, ◌++◌, Bool, true, false, nat_eq, length, refl, sym, ap, ◌∙◌, inl, inr, eq-eqb, arith}
use Rattle.std.proofs.lemmas.List.Elements.{All-append, All-cons, All-head, All-nil, All-tail}
use Rattle.std.proofs.lemmas.List.Splits.{length-slice_split, slice_split-cons_no, slice_split-cons_yes, slice_split_at, slice_split_none}
use Rattle.std.proofs.lemmas.Bool.{cases_Bool}
use Rattle.std.specs.List.{All, join_with_byte, onto_first, slice_split}

-- no byte of the text is c
abbrev pub Lacks : ℕ → List ℕ → Type 0
Lacks c text = All (λ x. nat_eq x c ≡ false) text

pub slice_split-join_with_byte : (c : ℕ) (parts : List (List ℕ)) → 0 < length parts → All (Lacks c) parts
    → slice_split (λ x. nat_eq x c) (join_with_byte c parts) ≡ parts
slice_split-join_with_byte c [] n h = absurd (omega arith)
slice_split-join_with_byte c (x ∷ []) n h = slice_split_none (λ x. nat_eq x c) x (All-head (Lacks c) x [] h)
slice_split-join_with_byte c (x ∷ y ∷ parts) n h =
    slice_split_at (λ x. nat_eq x c) x c (join_with_byte c (y ∷ parts)) (All-head (Lacks c) x (y ∷ parts) h) (eq-eqb c c refl)
    ∙ ap (λ (rest : List (List ℕ)). x ∷ rest) (slice_split-join_with_byte c (y ∷ parts) (omega arith) (All-tail (Lacks c) x (y ∷ parts) h))

onto_first-push : {X : Type 0} (x : X) (parts : List (List X)) → 0 < length parts → onto_first x (parts ++ [] ∷ []) ≡ onto_first x parts ++ [] ∷ []
onto_first-push x [] n = absurd (omega arith)
onto_first-push x (part ∷ parts) n = refl

-- a cut at the end leaves an empty part
pub slice_split-push : {X : Type 0} (p : X → Bool) (xs : List X) (y : X) → p y ≡ true → slice_split p (xs ++ y ∷ []) ≡ slice_split p xs ++ [] ∷ []
slice_split-push p [] y e = slice_split-cons_yes p y [] e
slice_split-push p (x ∷ xs) y e = elim (cases_Bool (p x)) [
  | inl cut ↦ slice_split-cons_yes p x (xs ++ y ∷ []) cut ∙ ap (λ parts. [] ∷ parts) (slice_split-push p xs y e) ∙ ap (λ parts. parts ++ [] ∷ []) (sym (slice_split-cons_yes p x xs cut))
  | inr whole ↦ slice_split-cons_no p x (xs ++ y ∷ []) whole ∙ ap (onto_first x) (slice_split-push p xs y e)
      ∙ onto_first-push x (slice_split p xs) (omega (arith, length-slice_split p xs)) ∙ ap (λ parts. parts ++ [] ∷ []) (sym (slice_split-cons_no p x xs whole))
]

pub All-join_with_byte : (P : ℕ → Type 0) (c : ℕ) (parts : List (List ℕ)) → P c → All (All P) parts → All P (join_with_byte c parts)
All-join_with_byte P c [] p h = All-nil P
All-join_with_byte P c (x ∷ []) p h = All-head (All P) x [] h
All-join_with_byte P c (x ∷ y ∷ parts) p h =
    All-append P x (c ∷ join_with_byte c (y ∷ parts)) (All-head (All P) x (y ∷ parts) h)
    (All-cons P c (join_with_byte c (y ∷ parts)) p (All-join_with_byte P c (y ∷ parts) p (All-tail (All P) x (y ∷ parts) h)))
