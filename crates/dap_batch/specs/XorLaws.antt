-- The exclusive or of lists of bytes.
use Rattle.std.proofs.Common.{◌≡◌, ℕ, zero, suc, ◌+◌, ◌<◌, List, [], ◌∷◌, ◌++◌, length, get_or, set, take, drop, ap, ◌∙◌, refl, arith, add-one}
use Rattle.std.specs.Prelude.{bit_xor, replicate}
use lib.Bits.{xor_assoc, xor_self, xor_zero_r}
use Rattle.std.proofs.lemmas.Nat.{xor_comm}
use Rattle.dap_batch.specs.Checksum.{xor_bytes}

pub xor_bytes-comm : (a b : List ℕ) → xor_bytes a b ≡ xor_bytes b a
xor_bytes-comm [] [] = refl
xor_bytes-comm [] (y ∷ b) = refl
xor_bytes-comm (x ∷ a) [] = refl
xor_bytes-comm (x ∷ a) (y ∷ b) = ap (λ n. n ∷ xor_bytes a b) (xor_comm x y) ∙ ap (λ l. bit_xor y x ∷ l) (xor_bytes-comm a b)

pub xor_bytes-assoc : (a b c : List ℕ) → xor_bytes (xor_bytes a b) c ≡ xor_bytes a (xor_bytes b c)
xor_bytes-assoc [] b c = refl
xor_bytes-assoc (x ∷ a) [] c = refl
xor_bytes-assoc (x ∷ a) (y ∷ b) [] = refl
xor_bytes-assoc (x ∷ a) (y ∷ b) (z ∷ c) =
    ap (λ n. n ∷ xor_bytes (xor_bytes a b) c) (xor_assoc x y z) ∙ ap (λ l. bit_xor x (bit_xor y z) ∷ l) (xor_bytes-assoc a b c)

-- the same bytes twice undo one another
pub xor_bytes-undo : (a b : List ℕ) → length a ≡ length b → xor_bytes (xor_bytes a b) b ≡ a
xor_bytes-undo [] b h = refl
xor_bytes-undo (x ∷ a) [] h = absurd (omega arith)
xor_bytes-undo (x ∷ a) (y ∷ b) h =
    let bits : bit_xor (bit_xor x y) y ≡ x = xor_assoc x y y ∙ ap (bit_xor x) (xor_self y) ∙ xor_zero_r x in
    ap (λ n. n ∷ xor_bytes (xor_bytes a b) b) bits ∙ ap (λ l. x ∷ l) (xor_bytes-undo a b (omega arith))

pub xor_bytes-zeros : (n : ℕ) (a : List ℕ) → length a ≡ n → xor_bytes (replicate n 0) a ≡ a
xor_bytes-zeros zero [] h = refl
xor_bytes-zeros zero (x ∷ a) h = absurd (omega arith)
xor_bytes-zeros (suc n) [] h = absurd (omega arith)
xor_bytes-zeros (suc n) (x ∷ a) h = ap (λ l. x ∷ l) (xor_bytes-zeros n a (omega arith))

pub length-xor_bytes : (a b : List ℕ) → length a ≡ length b → length (xor_bytes a b) ≡ length a
length-xor_bytes [] b h = refl
length-xor_bytes (x ∷ a) [] h = absurd (omega arith)
length-xor_bytes (x ∷ a) (y ∷ b) h = ap suc (length-xor_bytes a b (omega arith))

-- one byte more
xor-next : (a b : List ℕ) (i : ℕ) → i < length a → i < length b
    → set (xor_bytes (take i a) (take i b) ++ drop i a) i (bit_xor (get_or a i 0) (get_or b i 0)) ≡ xor_bytes (take (suc i) a) (take (suc i) b) ++ drop (suc i) a
xor-next [] b i h k = absurd (omega arith)
xor-next (x ∷ a) [] i h k = absurd (omega arith)
xor-next (x ∷ a) (y ∷ b) zero h k = refl
xor-next (x ∷ a) (y ∷ b) (suc i) h k = ap (λ l. bit_xor x y ∷ l) (xor-next a b i (omega arith) (omega arith))

pub xor-more : (a b : List ℕ) (i : ℕ) → i < length a → i < length b
    → set (xor_bytes (take i a) (take i b) ++ drop i a) i (bit_xor (get_or a i 0) (get_or b i 0)) ≡ xor_bytes (take (i + 1) a) (take (i + 1) b) ++ drop (i + 1) a
xor-more a b i h k = rw add-one (xor-next a b i h k)
