-- One more word of those that are read in turn.
use Rattle.std.proofs.Common.{◌≡◌, ℕ, ◌+◌, ◌<◌, List, [], ◌∷◌, ◌++◌, length, drop, get_or, Option, Some, None, Bor, refl, sym, ap, ◌∙◌, add-one, arith}
use Rattle.std.proofs.lemmas.Grind.{common_steps}
use Rattle.std.proofs.lemmas.List.{append_assoc}
use Rattle.std.proofs.Math.ListN.{get_or-map}
use Rattle.std.proofs.Math.Seq.{drop-cons}
use Rattle.std.specs.Option.{option_and_then, option_map}
use Rattle.dap_script.specs.Fields.{number_of, numbers_of}
use Rattle.dap_script.specs.Words.{texts}

pub drop_texts : (words : List (Bor (List ℕ))) (i : ℕ) (d : Bor (List ℕ)) → i < length words
    → drop i (texts words) ≡ (get_or words i d).now ∷ drop (i + 1) (texts words)
drop_texts words i d h =
    let within : i < length (texts words) = grind (arith, common_steps) in
    drop-cons (texts words) i d.now within ∙ rw (add-one, get_or-map (λ (w : Bor (List ℕ)). w.now) words i d) refl

-- the numbers so far, with those of the words that are left
abbrev pub numbers_after : List ℕ → List (List ℕ) → Option (List ℕ)
numbers_after before words = option_map (λ rest. before ++ rest) (numbers_of words)

-- the numbers of a word and of those after it
joined : Option ℕ → Option (List ℕ) → Option (List ℕ)
joined number numbers = option_and_then (λ n. option_and_then (λ ns. Some (n ∷ ns)) numbers) number

one_more : (before : List ℕ) (n : ℕ) (rest : Option (List ℕ))
    → option_map (λ ns. (before ++ n ∷ []) ++ ns) rest ≡ option_map (λ ns. before ++ ns) (option_and_then (λ ns. Some (n ∷ ns)) rest)
one_more before n None = refl
one_more before n (Some ns) = ap Some (append_assoc before (n ∷ []) ns)

pub numbers_go : (before : List ℕ) (words : List (Bor (List ℕ))) (i : ℕ) (d : Bor (List ℕ)) (n : ℕ) → i < length words
    → number_of (get_or words i d).now ≡ Some n
    → numbers_after (before ++ n ∷ []) (drop (i + 1) (texts words)) ≡ numbers_after before (drop i (texts words))
unfolding joined
numbers_go before words i d n h e =
    one_more before n (numbers_of (drop (i + 1) (texts words)))
    ∙ sym (ap (numbers_after before) (drop_texts words i d h) ∙ ap (λ o. option_map (λ ns. before ++ ns) (joined o (numbers_of (drop (i + 1) (texts words))))) e)

pub numbers_stop : (before : List ℕ) (words : List (Bor (List ℕ))) (i : ℕ) (d : Bor (List ℕ)) → i < length words
    → number_of (get_or words i d).now ≡ None → numbers_after before (drop i (texts words)) ≡ None
unfolding joined
numbers_stop before words i d h e =
    ap (numbers_after before) (drop_texts words i d h) ∙ ap (λ o. option_map (λ ns. before ++ ns) (joined o (numbers_of (drop (i + 1) (texts words))))) e
