-- A word and its four bytes.
use Rattle.std.proofs.Common.{◌≡◌, ℕ, ◌/◌, ◌%◌, ◌^◌, ◌<◌, ◌≤◌, ◌+◌, List, [], ◌∷◌, length, slice_index, bit_xor, ap, sym, take, drop, ◌∙◌, arith}
use Rattle.std.proofs.lemmas.List.{drop_more}
use Rattle.std.proofs.lemmas.Nat.{xor_mod, xor_shr}
use Rattle.std.specs.Int.{w32, to_be_bytes, from_be_bytes}
use Rattle.aes_block.specs.Schedule.{add_bytes}

-- 2 ^ k is one of a byte's places
xor_byte : (x y k : ℕ) → bit_xor x y / 2 ^ k % 2 ^ 8 ≡ bit_xor (x / 2 ^ k % 2 ^ 8) (y / 2 ^ k % 2 ^ 8)
xor_byte x y k = ap (λ n. n % 2 ^ 8) (xor_shr x y k) ∙ xor_mod (x / 2 ^ k) (y / 2 ^ k) 8

pub to_be_bytes-xor : (x y : ℕ) → to_be_bytes w32 (bit_xor x y) ≡ add_bytes (to_be_bytes w32 x) (to_be_bytes w32 y)
to_be_bytes-xor x y = λ i. xor_byte x y 24 i ∷ xor_byte x y 16 i ∷ xor_byte x y 8 i ∷ xor_mod x y 8 i ∷ []

-- the bytes of a word that was read from four bytes
pub to_be_bytes-from : (a b c d : ℕ) → a < 256 → b < 256 → c < 256 → d < 256 → to_be_bytes w32 (from_be_bytes w32 (a ∷ b ∷ c ∷ d ∷ [])) ≡ a ∷ b ∷ c ∷ d ∷ []
to_be_bytes-from a b c d ha hb hc hd = λ i. first i ∷ second i ∷ third i ∷ fourth i ∷ []
  where
    n : ℕ
    n = from_be_bytes w32 (a ∷ b ∷ c ∷ d ∷ [])

    first : n / 16777216 % 256 ≡ a
    first = omega arith

    second : n / 65536 % 256 ≡ b
    second = omega arith

    third : n / 256 % 256 ≡ c
    third = omega arith

    fourth : n % 256 ≡ d
    fourth = omega arith

-- the bytes of the sum of five words
pub to_be_bytes-sum : (v w x y z : ℕ) (vs ws xs ys : List ℕ) → to_be_bytes w32 v ≡ vs → to_be_bytes w32 w ≡ ws → to_be_bytes w32 x ≡ xs → to_be_bytes w32 y ≡ ys
    → to_be_bytes w32 (bit_xor (bit_xor (bit_xor (bit_xor v w) x) y) z) ≡ add_bytes (add_bytes (add_bytes (add_bytes vs ws) xs) ys) (to_be_bytes w32 z)
to_be_bytes-sum v w x y z vs ws xs ys hv hw hx hy =
    let two : to_be_bytes w32 (bit_xor v w) ≡ add_bytes vs ws = to_be_bytes-xor v w ∙ (λ i. add_bytes (hv i) (hw i)) in
    let three : to_be_bytes w32 (bit_xor (bit_xor v w) x) ≡ add_bytes (add_bytes vs ws) xs = to_be_bytes-xor (bit_xor v w) x ∙ (λ i. add_bytes (two i) (hx i)) in
    let four : to_be_bytes w32 (bit_xor (bit_xor (bit_xor v w) x) y) ≡ add_bytes (add_bytes (add_bytes vs ws) xs) ys =
    to_be_bytes-xor (bit_xor (bit_xor v w) x) y ∙ (λ i. add_bytes (three i) (hy i)) in
    to_be_bytes-xor (bit_xor (bit_xor (bit_xor v w) x) y) z ∙ (λ i. add_bytes (four i) (to_be_bytes w32 z))

-- four bytes of a list from one place on
pub four_from : (xs : List ℕ) (k : ℕ) → k + 4 ≤ length xs
    → slice_index xs k ∷ slice_index xs (k + 1) ∷ slice_index xs (k + 2) ∷ slice_index xs (k + 3) ∷ [] ≡ take 4 (drop k xs)
four_from xs k le = sym (ap (take 4) whole)
  where
    two : k + 1 + 1 ≡ k + 2
    two = omega arith

    three : k + 2 + 1 ≡ k + 3
    three = omega arith

    fourth : drop (k + 3) xs ≡ slice_index xs (k + 3) ∷ drop (k + 3 + 1) xs
    fourth = drop_more xs (k + 3) 0 (omega arith)

    third : drop (k + 2) xs ≡ slice_index xs (k + 2) ∷ slice_index xs (k + 3) ∷ drop (k + 3 + 1) xs
    third = drop_more xs (k + 2) 0 (omega arith) ∙ ap (λ n. slice_index xs (k + 2) ∷ drop n xs) three ∙ ap (λ ys. slice_index xs (k + 2) ∷ ys) fourth

    second : drop (k + 1) xs ≡ slice_index xs (k + 1) ∷ slice_index xs (k + 2) ∷ slice_index xs (k + 3) ∷ drop (k + 3 + 1) xs
    second = drop_more xs (k + 1) 0 (omega arith) ∙ ap (λ n. slice_index xs (k + 1) ∷ drop n xs) two ∙ ap (λ ys. slice_index xs (k + 1) ∷ ys) third

    whole : drop k xs ≡ slice_index xs k ∷ slice_index xs (k + 1) ∷ slice_index xs (k + 2) ∷ slice_index xs (k + 3) ∷ drop (k + 3 + 1) xs
    whole = drop_more xs k 0 (omega arith) ∙ ap (λ ys. slice_index xs k ∷ ys) second
