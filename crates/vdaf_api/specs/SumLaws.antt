-- Sums of vectors and of out shares.
use Rattle.std.proofs.Common.{◌≡◌, ℕ, zero, suc, ◌+◌, ◌*◌, ◌%◌, ◌≤◌, List, [], ◌∷◌, length, Option, Some, None, sym, ap, ◌∙◌, refl, arith}
use Rattle.std.specs.Prelude.{replicate}
use Rattle.std.proofs.Math.Nat.{mul-le-mul, mod-add-mod, add-mod-mod, mod-eq_of_lt}
use Rattle.std.proofs.lemmas.List.{length-replicate}
use Rattle.field_laws.specs.Vector.{add_each}
use Rattle.vdaf_api.specs.declared.space.Space.{Space}
use Rattle.vdaf_api.specs.Vectors.{spelled, vector_of, Below, vector, IsOut, zero_share, sum_in, plus, SpaceLaws}
use Rattle.vdaf_api.specs.VectorLaws.{vector_of-spelled, vector_of-back, Spells}

pub add_each-comm : (p : ℕ) (xs ys : List ℕ) → length xs ≡ length ys → add_each p xs ys ≡ add_each p ys xs
add_each-comm p [] [] e = refl
add_each-comm p [] (y ∷ ys) e = absurd (omega arith)
add_each-comm p (x ∷ xs) [] e = absurd (omega arith)
add_each-comm p (x ∷ xs) (y ∷ ys) e =
    ap (λ n. n % p ∷ add_each p xs ys) (let c : x + y ≡ y + x = omega arith in c) ∙ ap (λ l. (y + x) % p ∷ l) (add_each-comm p xs ys (omega arith))

pub length-add_each : (p : ℕ) (xs ys : List ℕ) → length xs ≡ length ys → length (add_each p xs ys) ≡ length xs
length-add_each p [] ys e = refl
length-add_each p (x ∷ xs) [] e = absurd (omega arith)
length-add_each p (x ∷ xs) (y ∷ ys) e = ap suc (length-add_each p xs ys (omega arith))

pub below-add_each : (p : ℕ) (xs ys : List ℕ) → 1 ≤ p → Below p (add_each p xs ys)
unfolding Below
below-add_each p [] ys h = tt
below-add_each p (x ∷ xs) [] h = tt
below-add_each p (x ∷ xs) (y ∷ ys) h = (omega arith, below-add_each p xs ys h)

sum_mod : (p x y z : ℕ) → 1 ≤ p → ((x + y) % p + z) % p ≡ (x + (y + z) % p) % p
sum_mod p x y z h = mod-add-mod (x + y) p z ∙ ap (λ n. n % p) (let e : x + y + z ≡ x + (y + z) = omega arith in e) ∙ sym (add-mod-mod x (y + z) p)

pub add_each-assoc : (p : ℕ) (xs ys zs : List ℕ) → 1 ≤ p → add_each p (add_each p xs ys) zs ≡ add_each p xs (add_each p ys zs)
add_each-assoc p [] ys zs h = refl
add_each-assoc p (x ∷ xs) [] zs h = refl
add_each-assoc p (x ∷ xs) (y ∷ ys) [] h = refl
add_each-assoc p (x ∷ xs) (y ∷ ys) (z ∷ zs) h = ap (λ n. n ∷ add_each p (add_each p xs ys) zs) (sum_mod p x y z h) ∙ ap (λ l. (x + (y + z) % p) % p ∷ l) (add_each-assoc p xs ys zs h)

pub add_each-zero : (p : ℕ) (xs : List ℕ) → Below p xs → add_each p (replicate (length xs) 0) xs ≡ xs
unfolding Below
add_each-zero p [] h = refl
add_each-zero p (x ∷ xs) h = ap (λ n. n ∷ add_each p (replicate (length xs) 0) xs) (let e : (0 + x) % p ≡ x = ap (λ n. n % p) (let z : 0 + x ≡ x = omega arith in z) ∙ mod-eq_of_lt h.0 in e) ∙ ap (λ l. x ∷ l) (add_each-zero p xs h.1)

pub length-zeros : (n : ℕ) → length {A = ℕ} (replicate n 0) ≡ n
length-zeros n = length-replicate n 0

below-zeros : (p n : ℕ) → 1 ≤ p → Below p (replicate n 0)
unfolding Below
below-zeros p zero h = tt
below-zeros p (suc n) h = (h, below-zeros p n h)

-- bytes that spell a vector of the space
pub vector-spelled : {s : Space} → SpaceLaws s → (xs : List ℕ) → length xs ≡ s.size → Below s.modulus xs → vector s (spelled s.width xs) ≡ Some xs
vector-spelled {s} laws xs size below = ap (λ n. vector_of s.modulus s.width n (spelled s.width xs)) (sym size) ∙ vector_of-spelled s.modulus s.width xs laws.room below

pub vector-empty : {s : Space} → SpaceLaws s → vector s [] ≡ None
vector-empty {s} laws = none (vector s []) refl
  where
    none : (o : Option (List ℕ)) → vector s [] ≡ o → o ≡ None
    none None e = refl
    none (Some xs) e = let back : Spells s.modulus s.width s.size [] xs = vector_of-back s.modulus s.width s.size [] xs e in absurd (nothing back.bytes)
      where
        nothing : 0 ≡ s.size * s.width → ⊥
        nothing e = absurd (let one : 1 * 1 ≤ s.size * s.width = mul-le-mul laws.some_entry laws.some_byte in omega arith)

pub vector-plus : {s : Space} → SpaceLaws s → (a b xs ys : List ℕ) → vector s a ≡ Some xs → vector s b ≡ Some ys → vector s (plus s a b) ≡ Some (add_each s.modulus xs ys)
unfolding plus
vector-plus {s} laws a b xs ys ea eb =
    let ka : Spells s.modulus s.width s.size a xs = vector_of-back s.modulus s.width s.size a xs ea in
    let kb : Spells s.modulus s.width s.size b ys = vector_of-back s.modulus s.width s.size b ys eb in
    ap (λ o. vector s (sum_in s o (vector s b))) ea ∙ ap (λ o. vector s (sum_in s (Some xs) o)) eb
    ∙ vector-spelled laws (add_each s.modulus xs ys) (length-add_each s.modulus xs ys (ka.size ∙ sym kb.size) ∙ ka.size) (below-add_each s.modulus xs ys laws.some_number)

pub plus_comm : (s : Space) (a b : List ℕ) → plus s a b ≡ plus s b a
unfolding plus
plus_comm s a b = go (vector s a) (vector s b) refl refl
  where
    go : (o q : Option (List ℕ)) → vector s a ≡ o → vector s b ≡ q → sum_in s o q ≡ sum_in s q o
    go None None ea eb = refl
    go None (Some ys) ea eb = refl
    go (Some xs) None ea eb = refl
    go (Some xs) (Some ys) ea eb =
        ap (spelled s.width) (add_each-comm s.modulus xs ys ((vector_of-back s.modulus s.width s.size a xs ea).size ∙ sym (vector_of-back s.modulus s.width s.size b ys eb).size))

pub plus-none : (s : Space) (a b : List ℕ) → vector s a ≡ None → plus s a b ≡ []
unfolding plus
plus-none s a b e = ap (λ o. sum_in s o (vector s b)) e

pub plus-out : (s : Space) (a b xs ys : List ℕ) → vector s a ≡ Some xs → vector s b ≡ Some ys → plus s a b ≡ spelled s.width (add_each s.modulus xs ys)
unfolding plus
plus-out s a b xs ys ea eb = ap (λ o. sum_in s o (vector s b)) ea ∙ ap (λ o. sum_in s (Some xs) o) eb

-- on all byte lists
pub plus_assoc : {s : Space} → SpaceLaws s → (a b c : List ℕ) → plus s (plus s a b) c ≡ plus s a (plus s b c)
plus_assoc {s} laws a b c = go (vector s a) (vector s b) (vector s c) refl refl refl
  where
    go : (o q r : Option (List ℕ)) → vector s a ≡ o → vector s b ≡ q → vector s c ≡ r → plus s (plus s a b) c ≡ plus s a (plus s b c)
    go None q r ea eb ec = plus-none s (plus s a b) c (ap (vector s) (plus-none s a b ea) ∙ vector-empty laws) ∙ sym (plus-none s a (plus s b c) ea)
    go (Some xs) None r ea eb ec =
        ap (λ l. plus s l c) (plus_comm s a b ∙ plus-none s b a eb) ∙ plus-none s [] c (vector-empty laws)
        ∙ sym (plus_comm s a (plus s b c) ∙ plus-none s (plus s b c) a (ap (vector s) (plus-none s b c eb) ∙ vector-empty laws))
    go (Some xs) (Some ys) None ea eb ec =
        plus_comm s (plus s a b) c ∙ plus-none s c (plus s a b) ec
        ∙ sym (plus_comm s a (plus s b c) ∙ plus-none s (plus s b c) a (ap (vector s) (plus_comm s b c ∙ plus-none s c b ec) ∙ vector-empty laws))
    go (Some xs) (Some ys) (Some zs) ea eb ec =
        plus-out s (plus s a b) c (add_each s.modulus xs ys) zs (vector-plus laws a b xs ys ea eb) ec
        ∙ ap (spelled s.width) (add_each-assoc s.modulus xs ys zs laws.some_number)
        ∙ sym (plus-out s a (plus s b c) xs (add_each s.modulus ys zs) ea (vector-plus laws b c ys zs eb ec))

pub vector-zero : {s : Space} → SpaceLaws s → vector s (zero_share s) ≡ Some (replicate s.size 0)
vector-zero {s} laws = vector-spelled laws (replicate s.size 0) (length-zeros s.size) (below-zeros s.modulus s.size laws.some_number)

-- the zero share adds nothing
pub plus-zero : {s : Space} → SpaceLaws s → (a xs : List ℕ) → vector s a ≡ Some xs → plus s (zero_share s) a ≡ a
plus-zero {s} laws a xs e =
    let k : Spells s.modulus s.width s.size a xs = vector_of-back s.modulus s.width s.size a xs e in
    plus-out s (zero_share s) a (replicate s.size 0) xs (vector-zero laws) e
    ∙ ap (λ n. spelled s.width (add_each s.modulus (replicate n 0) xs)) (sym k.size) ∙ ap (spelled s.width) (add_each-zero s.modulus xs k.below) ∙ k.back

-- the sum of two out shares is one
pub plus-is_out : {s : Space} → SpaceLaws s → (a b : List ℕ) → IsOut s a → IsOut s b → IsOut s (plus s a b)
plus-is_out {s} laws a b ha hb = (add_each s.modulus ha.0 hb.0, vector-plus laws a b ha.0 hb.0 ha.1 hb.1)
