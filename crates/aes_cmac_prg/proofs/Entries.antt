-- The bytes of a reading, at once and in pieces.
use Rattle.std.proofs.Common.{◌≡◌, ℕ, zero, suc, ◌+◌, ◌<◌, List, [], ◌∷◌, ◌++◌, length, sum, ap, get_or, map, refl, sym, ◌∙◌, arith}
use Rattle.std.proofs.lemmas.List.{ext_get_or, map-append}
use Rattle.std.proofs.lemmas.List.FromFn.{get_or-map-range_with_len, length-map-range_with_len}
use Rattle.std.proofs.lemmas.List.Sums.{sum_by-cons}
use Rattle.std.specs.List.{range_with_len}
use Rattle.aes_cmac_prg.specs.Stream.{byte_at, bytes_at, in_pieces}

-- a list whose entries are those of a function from a place on
pub map_by_entries : (f : ℕ → ℕ) (place n : ℕ) (xs : List ℕ) → length xs ≡ n → ((k : ℕ) → k < n → get_or xs k 0 ≡ f (place + k)) → xs ≡ map f (range_with_len place n)
map_by_entries f place n xs len at =
    ext_get_or 0 xs (map f (range_with_len place n)) (len ∙ sym (length-map-range_with_len f place n))
    (λ k lt. let below : k < n = omega arith in at k below ∙ sym (get_or-map-range_with_len f place n k (place + k) 0 below refl))

range-append : (a m n : ℕ) → range_with_len a (m + n) ≡ range_with_len a m ++ range_with_len (a + m) n
range-append a zero n =
    let count : 0 + n ≡ n = omega arith in
    let start : a ≡ a + 0 = omega arith in
    λ i. range_with_len (start i) (count i)
range-append a (suc m) n =
    let count : suc m + n ≡ suc (m + n) = omega arith in
    let start : a + 1 + m ≡ a + suc m = omega arith in
    ap (range_with_len a) count ∙ ap (λ xs. a ∷ xs) (range-append (a + 1) m n ∙ ap (λ b. range_with_len (a + 1) m ++ range_with_len b n) start)

pub bytes_at-append : (key : List ℕ) (place m n : ℕ) → bytes_at key place (m + n) ≡ bytes_at key place m ++ bytes_at key (place + m) n
bytes_at-append key place m n =
    ap (map (byte_at key)) (range-append place m n) ∙ map-append (byte_at key) (range_with_len place m) (range_with_len (place + m) n)

pub in_pieces_is : (key : List ℕ) (place : ℕ) (sizes : List ℕ) → in_pieces key place sizes ≡ bytes_at key place (sum sizes)
in_pieces_is key place [] = refl
in_pieces_is key place (size ∷ sizes) =
    ap (λ rest. bytes_at key place size ++ rest) (in_pieces_is key (place + size) sizes) ∙ sym (bytes_at-append key place size (sum sizes)) ∙ ap (bytes_at key place) (sym (sum_by-cons (λ x. x) size sizes))

pub length-bytes_at : (key : List ℕ) (place n : ℕ) → length (bytes_at key place n) ≡ n
length-bytes_at key place n = length-map-range_with_len (byte_at key) place n
