-- The text under which a trial key is made.
use Rattle.std.proofs.Common.{◌≡◌, ℕ, ◌+◌, ◌-◌, ◌≤◌, suc, length, take, drop, replicate, List, [], ◌∷◌, ◌++◌, ap, sym, ◌∙◌, arith, length-append, append_assoc}
use Rattle.std.proofs.lemmas.List.{drop-replicate}
use Rattle.std.proofs.Math.Seq.{take-append-add, take-append_seam}

-- so many zeros
abbrev zeros : ℕ → List ℕ
zeros n = replicate n 0

zero_next : (n : ℕ) → n ≤ 10 → take 1 (drop n (zeros 43)) ≡ 0 ∷ []
zero_next n few =
    let left : 43 - n ≡ suc (42 - n) = omega arith in
    ap (take 1) (drop-replicate n 43 0) ∙ ap (λ (k : ℕ). take 1 (zeros k)) left

-- zeros, overwritten by a label and, behind one of them, by a name
pub key_text : (label name rest : List ℕ) → length label ≤ 10
    → take (length label + 1 + length name) (take (length label + 1) (label ++ drop (length label) (zeros 43)) ++ (name ++ rest)) ≡ label ++ 0 ∷ name
key_text label name rest few =
    let front : take (length label + 1) (label ++ drop (length label) (zeros 43)) ≡ label ++ 0 ∷ [] =
    take-append-add label (drop (length label) (zeros 43)) 1 ∙ ap (λ zero. label ++ zero) (zero_next (length label) few) in
    let long : length label + 1 ≡ length (label ++ 0 ∷ []) = sym (length-append label (0 ∷ [])) in
    ap (λ start. take (length label + 1 + length name) (start ++ (name ++ rest))) front
    ∙ ap (λ n. take (n + length name) ((label ++ 0 ∷ []) ++ (name ++ rest))) long
    ∙ take-append-add (label ++ 0 ∷ []) (name ++ rest) (length name)
    ∙ ap (λ end. (label ++ 0 ∷ []) ++ end) (take-append_seam name rest)
    ∙ append_assoc label (0 ∷ []) name
