-- Lemmas: the bytes of a vector, one number at a time.
use Rattle.std.proofs.Common.{◌≡◌, ℕ, zero, suc, ◌+◌, ◌-◌, ◌*◌, ◌%◌, ◌<◌, List, [], ◌∷◌, ◌++◌, length, get_or, take, drop, true, Some, sym, ap, ◌∙◌, refl, arith}
use Rattle.std.specs.Prelude.{nat_eq, nat_lt, replicate}
use Rattle.std.specs.List.{list_all}
use Rattle.std.proofs.lemmas.Bool.Decides.{nat_tests}
use Rattle.field_laws.specs.Bytes.{low_bytes, from_low}
use Rattle.field_laws.specs.Vector.{add_each}
use Rattle.vdaf_api.specs.Vectors.{is_byte, spelled, element_of, vector_of}
use Rattle.vdaf_api.specs.VectorLaws.{joined-some, element_of-back}

low_bytes-zero : (w : ℕ) → low_bytes w 0 ≡ replicate w 0
unfolding low_bytes
low_bytes-zero zero = refl
low_bytes-zero (suc w) = ap (λ l. 0 ∷ l) (low_bytes-zero w)

replicate-add : (m n : ℕ) → replicate {A = ℕ} (m + n) 0 ≡ replicate m 0 ++ replicate n 0
replicate-add zero n = ap (λ k. replicate k 0) (let e : 0 + n ≡ n = omega arith in e)
replicate-add (suc m) n = ap (λ k. replicate k 0) (let e : suc m + n ≡ suc (m + n) = omega arith in e) ∙ ap (λ l. 0 ∷ l) (replicate-add m n)

pub spelled-zeros : (w n : ℕ) → spelled w (replicate n 0) ≡ replicate (n * w) 0
unfolding spelled
spelled-zeros w zero = ap (λ k. replicate k 0) (let e : 0 ≡ 0 * w = omega arith in e)
spelled-zeros w (suc n) =
    ap (λ l. l ++ spelled w (replicate n 0)) (low_bytes-zero w) ∙ ap (λ l. replicate w 0 ++ l) (spelled-zeros w n) ∙ sym (replicate-add w (n * w))
    ∙ ap (λ k. replicate k 0) (let e : w + n * w ≡ suc n * w = omega arith in e)

all_bytes : (bs : List ℕ) → ((i : ℕ) → get_or bs i 0 < 256) → list_all is_byte bs ≡ true
all_bytes [] h = refl
all_bytes (b ∷ bs) h = let s : b < 256 = h 0 in let e : nat_lt b 256 ≡ true = grind (arith, nat_tests) in rw e (all_bytes bs (λ i. h (suc i)))

pub element_of-here : (p w : ℕ) (bs : List ℕ) → length bs ≡ w → ((i : ℕ) → get_or bs i 0 < 256) → from_low bs < p → element_of p w bs ≡ Some (from_low bs)
unfolding element_of
element_of-here p w bs len small low =
    let a : nat_eq (length bs) w ≡ true = grind (arith, nat_tests) in
    let b : list_all is_byte bs ≡ true = all_bytes bs small in
    let c : nat_lt (from_low bs) p ≡ true = grind (arith, nat_tests) in
    rw (a, b, c) refl

-- the first number of a vector, and what is behind it
pub record FirstOf (p w n : ℕ) (bs : List ℕ) (xs : List ℕ) : Type 0 where
  pub x : ℕ
  pub rest : List ℕ
  pub is : xs ≡ x ∷ rest
  pub value : from_low (take w bs) ≡ x
  pub small : x < p
  pub size : length (take w bs) ≡ w
  pub more : vector_of p w (n - 1) (drop w bs) ≡ Some rest

pub first_of : (p w n : ℕ) (bs xs : List ℕ) → 0 < n → vector_of p w n bs ≡ Some xs → FirstOf p w n bs xs
unfolding vector_of
first_of p w zero bs xs h e = absurd (omega arith)
first_of p w (suc n) bs xs h e =
    let parts = joined-some (element_of p w (take w bs)) (vector_of p w n (drop w bs)) xs e in
    let one = element_of-back p w (take w bs) parts.0 parts.2 in
    record { x = parts.0; rest = parts.1; is = parts.4; value = one.value; small = one.small; size = one.size; more = ap (λ k. vector_of p w k (drop w bs)) (let e : suc n - 1 ≡ n = omega arith in e) ∙ parts.3 }

pub vector-cons : (p w n : ℕ) (bs : List ℕ) (xs : List ℕ) → 0 < n → length (take w bs) ≡ w → ((i : ℕ) → get_or (take w bs) i 0 < 256) → from_low (take w bs) < p
    → vector_of p w (n - 1) (drop w bs) ≡ Some xs → vector_of p w n bs ≡ Some (from_low (take w bs) ∷ xs)
unfolding vector_of
vector-cons p w zero bs xs h len small low e = absurd (omega arith)
vector-cons p w (suc n) bs xs h len small low e =
    let back : vector_of p w n (drop w bs) ≡ Some xs = ap (λ k. vector_of p w k (drop w bs)) (let e : n ≡ suc n - 1 = omega arith in e) ∙ e in
    rw (element_of-here p w (take w bs) len small low, back) refl

pub vector-zero_len : (p w : ℕ) (bs xs : List ℕ) → vector_of p w 0 bs ≡ Some xs → (bs ≡ []) × (xs ≡ [])
unfolding vector_of
vector-zero_len p w [] xs e = (refl, cc)
vector-zero_len p w (b ∷ bs) xs e = absurd (cc)

pub vector-none_len : (p w : ℕ) → vector_of p w 0 [] ≡ Some []
unfolding vector_of
vector-none_len p w = refl

pub spelled-step : (p w : ℕ) (xs ys : List ℕ) (x y : ℕ) → spelled w (add_each p (x ∷ xs) (y ∷ ys)) ≡ low_bytes w ((x + y) % p) ++ spelled w (add_each p xs ys)
unfolding spelled
spelled-step p w xs ys x y = refl

pub spelled-none : (p w : ℕ) → spelled w (add_each p [] []) ≡ []
unfolding spelled
spelled-none p w = refl

pub low_bytes-none : (v : ℕ) → low_bytes 0 v ≡ []
unfolding low_bytes
low_bytes-none v = refl
