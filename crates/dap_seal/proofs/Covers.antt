-- One byte more of an exclusive or.
use Rattle.std.proofs.Common.{◌≡◌, ℕ, zero, suc, ◌+◌, ◌<◌, List, [], ◌∷◌, ◌++◌, length, get_or, take, ap, refl, arith, add-one}
use Rattle.std.specs.Prelude.{bit_xor}
use Rattle.dap_batch.specs.Checksum.{xor_bytes}

next_byte : (a b : List ℕ) (i : ℕ) → i < length a → i < length b
    → xor_bytes (take i a) (take i b) ++ bit_xor (get_or a i 0) (get_or b i 0) ∷ [] ≡ xor_bytes (take (suc i) a) (take (suc i) b)
next_byte [] b i h k = absurd (omega arith)
next_byte (x ∷ a) [] i h k = absurd (omega arith)
next_byte (x ∷ a) (y ∷ b) zero h k = refl
next_byte (x ∷ a) (y ∷ b) (suc i) h k = ap (λ l. bit_xor x y ∷ l) (next_byte a b i (omega arith) (omega arith))

pub xor_bytes-push : (a b : List ℕ) (i : ℕ) → i < length a → i < length b
    → xor_bytes (take i a) (take i b) ++ bit_xor (get_or a i 0) (get_or b i 0) ∷ [] ≡ xor_bytes (take (i + 1) a) (take (i + 1) b)
xor_bytes-push a b i h k = rw add-one (next_byte a b i h k)
