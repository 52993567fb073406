-- The sum of vectors modulo p is that in whole numbers, modulo p.
use Rattle.std.proofs.Common.{◌≡◌, ℕ, zero, suc, ◌+◌, ◌%◌, ◌<◌, List, [], ◌∷◌, length, map, get_or, refl, sym, ap, ◌∙◌, arith}
use Rattle.std.specs.Prelude.{replicate, slice_index_or, IsPermutation}
use Rattle.std.specs.List.{range_with_len, All, sum_by}
use Rattle.std.proofs.Math.Nat.{add-mod-mod, mod-eq_of_lt, zero-mod}
use Rattle.std.proofs.lemmas.List.{ext_get_or, get_or-map, get_or-replicate, length-replicate, length-map}
use Rattle.std.proofs.lemmas.List.Elements.{All-head, All-tail}
use Rattle.std.proofs.lemmas.List.FromFn.{get_or-map-range_with_len, length-map-range_with_len}
use Rattle.std.proofs.lemmas.List.Sums.{sum_by-cons}
use Rattle.field_laws.specs.Vector.{add_each, sum_of}
use Rattle.field_laws.specs.WholeSums.{HaveEntries, entry_sum, whole_sum}
use Rattle.field_laws.proofs.OrderLaws.{all-permutation}

-- ---- one entry of a sum

at_add_each : (p : ℕ) (xs ys : List ℕ) (i : ℕ) → i < length xs → i < length ys → get_or (add_each p xs ys) i 0 ≡ (get_or xs i 0 + get_or ys i 0) % p
at_add_each p [] ys i lt more = absurd (omega (arith, lt))
at_add_each p (x ∷ xs) [] i lt more = absurd (omega (arith, more))
at_add_each p (x ∷ xs) (y ∷ ys) zero lt more = refl
at_add_each p (x ∷ xs) (y ∷ ys) (suc i) lt more = at_add_each p xs ys i (omega (arith, lt)) (omega (arith, more))

length-add_each : (p : ℕ) (xs ys : List ℕ) → length xs ≡ length ys → length (add_each p xs ys) ≡ length xs
length-add_each p [] ys e = refl
length-add_each p (x ∷ xs) [] e = absurd (omega (arith, e))
length-add_each p (x ∷ xs) (y ∷ ys) e = ap suc (length-add_each p xs ys (omega (arith, e)))

pub length-sum_of : (p n : ℕ) (vectors : List (List ℕ)) → HaveEntries n vectors → length (sum_of p n vectors) ≡ n
length-sum_of p n [] h = length-replicate n 0
length-sum_of p n (v ∷ more) h =
    let own : length v ≡ n = All-head (λ w. length w ≡ n) v more h in
    let rest : length (sum_of p n more) ≡ n = length-sum_of p n more (All-tail (λ w. length w ≡ n) v more h) in
    length-add_each p v (sum_of p n more) (own ∙ sym rest) ∙ own

at_sum_of : (p n : ℕ) (vectors : List (List ℕ)) (i : ℕ) → HaveEntries n vectors → i < n → get_or (sum_of p n vectors) i 0 ≡ entry_sum vectors i % p
at_sum_of p n [] i h lt = get_or-replicate n i 0 0 lt ∙ sym (zero-mod p)
at_sum_of p n (v ∷ more) i h lt =
    let own : length v ≡ n = All-head (λ w. length w ≡ n) v more h in
    let each : HaveEntries n more = All-tail (λ w. length w ≡ n) v more h in
    let rest : length (sum_of p n more) ≡ n = length-sum_of p n more each in
    at_add_each p v (sum_of p n more) i (omega (arith, lt, own)) (omega (arith, lt, rest))
    ∙ ap (λ x. (get_or v i 0 + x) % p) (at_sum_of p n more i each lt)
    ∙ add-mod-mod (get_or v i 0) (entry_sum more i) p
    ∙ ap (λ x. x % p) (sym (sum_by-cons (λ (w : List ℕ). slice_index_or w i 0) v more))

-- ---- the laws

length-whole_sum : (n : ℕ) (vectors : List (List ℕ)) → length (whole_sum n vectors) ≡ n
length-whole_sum n vectors = length-map-range_with_len (entry_sum vectors) 0 n

at_whole_sum : (n : ℕ) (vectors : List (List ℕ)) (i : ℕ) → i < n → get_or (whole_sum n vectors) i 0 ≡ entry_sum vectors i
at_whole_sum n vectors i lt = get_or-map-range_with_len (entry_sum vectors) 0 n i i 0 lt (omega arith)

pub sum_of-whole : (p n : ℕ) (vectors : List (List ℕ)) → HaveEntries n vectors → sum_of p n vectors ≡ map (λ total. total % p) (whole_sum n vectors)
sum_of-whole p n vectors h =
    let whole : List ℕ = whole_sum n vectors in
    let long : length whole ≡ n = length-whole_sum n vectors in
    let same : length (sum_of p n vectors) ≡ n = length-sum_of p n vectors h in
    ext_get_or 0 (sum_of p n vectors) (map (λ total. total % p) whole) (same ∙ sym (length-map whole (λ total. total % p) ∙ long)) (λ i lt.
    let inside : i < n = omega (arith, lt, same) in
    at_sum_of p n vectors i h inside
    ∙ ap (λ x. x % p) (sym (at_whole_sum n vectors i inside))
    ∙ sym (get_or-map (λ total. total % p) whole i 0 0 (omega (arith, inside, long))))

pub sum_of-below : (p n : ℕ) (vectors : List (List ℕ)) → HaveEntries n vectors → ((place : ℕ) → place < n → entry_sum vectors place < p) → sum_of p n vectors ≡ whole_sum n vectors
sum_of-below p n vectors h small =
    let whole : List ℕ = whole_sum n vectors in
    let long : length whole ≡ n = length-whole_sum n vectors in
    let same : length (sum_of p n vectors) ≡ n = length-sum_of p n vectors h in
    ext_get_or 0 (sum_of p n vectors) whole (same ∙ sym long) (λ i lt.
    let inside : i < n = omega (arith, lt, same) in
    at_sum_of p n vectors i h inside ∙ mod-eq_of_lt (small i inside) ∙ sym (at_whole_sum n vectors i inside))

-- either of two vectors may be added first
either_first : (p : ℕ) (xs ys zs : List ℕ) → add_each p xs (add_each p ys zs) ≡ add_each p ys (add_each p xs zs)
either_first p [] [] zs = refl
either_first p [] (y ∷ ys) [] = refl
either_first p [] (y ∷ ys) (z ∷ zs) = refl
either_first p (x ∷ xs) [] zs = refl
either_first p (x ∷ xs) (y ∷ ys) [] = refl
either_first p (x ∷ xs) (y ∷ ys) (z ∷ zs) =
    let here : (x + (y + z) % p) % p ≡ (y + (x + z) % p) % p =
    add-mod-mod x (y + z) p ∙ ap (λ (n : ℕ). n % p) (let e : x + (y + z) ≡ y + (x + z) = omega arith in e) ∙ sym (add-mod-mod y (x + z) p) in
    ap (λ (n : ℕ). n ∷ add_each p xs (add_each p ys zs)) here ∙ ap (λ (l : List ℕ). (y + (x + z) % p) % p ∷ l) (either_first p xs ys zs)

pub sum_of-permutation : (p n : ℕ) (vectors others : List (List ℕ)) → IsPermutation vectors others → sum_of p n others ≡ sum_of p n vectors
sum_of-permutation p n = all-permutation (add_each p) (sum_of p n) (λ v more. refl) (either_first p)
