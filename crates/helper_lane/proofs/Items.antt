-- The items of a job, mapped and zipped.
use Rattle.std.proofs.Common.{◌≡◌, inl, inr, ℕ, suc, true, List, [], ◌∷◌, length, map, Option, Some, None, refl, sym, ap, subst, ◌∙◌}
use Rattle.std.proofs.lemmas.Bool.{and_parts, and_from}
use Rattle.dap_messages.specs.Grammar.{Grammar, item, allowed_items, items, is_between, cells, is_above}
use Rattle.dap_messages.specs.declared.item.Tagged.{Tagged}
use Rattle.dap_messages.specs.Items.{ids_of}
use Rattle.legal_journals.specs.History.{Mem}

-- items with the same identifiers, whose bodies have spellings
pub allowed_again : {A B : Type 0} (g : Grammar A) (h : Grammar B) (last : Option (List ℕ)) (xs : List (Tagged A)) (ys : List (Tagged B))
    → ids_of ys ≡ ids_of xs → ((y : Tagged B) → Mem y ys → h.allowed y.body ≡ true) → allowed_items g last xs ≡ true → allowed_items h last ys ≡ true
allowed_again g h last [] [] e each a = refl
allowed_again g h last [] (y ∷ ys) e each a = absurd (cc e)
allowed_again g h last (x ∷ xs) [] e each a = absurd (cc e)
allowed_again g h last (x ∷ xs) (y ∷ ys) e each a =
    let here : y.id ≡ x.id = cc e in
    let rest : ids_of ys ≡ ids_of xs = cc e in
    let p = and_parts ((item g last).allowed x) (allowed_items g (Some x.id) xs) a in
    let q = and_parts ((cells 16 (is_above last)).allowed x.id) (g.allowed x.body) p.0 in
    and_from ((item h last).allowed y) (allowed_items h (Some y.id) ys)
    (and_from ((cells 16 (is_above last)).allowed y.id) (h.allowed y.body) (subst (λ (i : List ℕ). (cells 16 (is_above last)).allowed i ≡ true) (sym here) q.0) (each y (inl refl)))
    (subst (λ (i : List ℕ). allowed_items h (Some i) ys ≡ true) (sym here) (allowed_again g h (Some x.id) xs ys rest (λ z m. each z (inr m)) p.1))

length_ids : {A : Type 0} (xs : List (Tagged A)) → length (ids_of xs) ≡ length xs
length_ids [] = refl
length_ids (x ∷ xs) = ap suc (length_ids xs)

pub items_again : {A B : Type 0} (g : Grammar A) (h : Grammar B) (xs : List (Tagged A)) (ys : List (Tagged B))
    → ids_of ys ≡ ids_of xs → ((y : Tagged B) → Mem y ys → h.allowed y.body ≡ true) → (items g).allowed xs ≡ true → (items h).allowed ys ≡ true
items_again g h xs ys e each a =
    let p = and_parts (is_between 1 64 (length xs)) (allowed_items g None xs) a in
    let long : length xs ≡ length ys = sym (length_ids xs) ∙ sym (ap (λ (l : List (List ℕ)). length l) e) ∙ length_ids ys in
    and_from (is_between 1 64 (length ys)) (allowed_items h None ys) (subst (λ (n : ℕ). is_between 1 64 n ≡ true) long p.0) (allowed_again g h None xs ys e each p.1)

pub mem_map : {A B : Type 0} (f : A → B) (y : B) (xs : List A) → Mem y (map f xs) → (x : A) × Mem x xs × (y ≡ f x)
mem_map f y [] m = elim m [ ]
mem_map f y (x ∷ xs) (inl e) = (x, inl refl, e)
mem_map f y (x ∷ xs) (inr m) = let w = mem_map f y xs m in (w.0, inr w.1, w.2)

pub ids_map : {A B : Type 0} (f : Tagged A → Tagged B) (xs : List (Tagged A)) → ((x : Tagged A) → (f x).id ≡ x.id) → ids_of (map f xs) ≡ ids_of xs
ids_map f [] same = refl
ids_map f (x ∷ xs) same = let a = same x in let b = ids_map f xs same in cc
