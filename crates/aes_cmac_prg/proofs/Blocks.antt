-- Blocks joined byte by byte, and the chain over a text.
use Rattle.std.proofs.Common.{◌≡◌, ℕ, suc, ◌+◌, ◌*◌, ◌<◌, List, [], ◌∷◌, length, get_or, take, drop, bit_xor, ap, sym, arith}
use Rattle.std.proofs.lemmas.List.{nil_from_length}
use Rattle.aes_block.specs.Schedule.{add_bytes}
use Rattle.aes_block.specs.Cipher.{encrypt}
use Rattle.aes_cmac_prg.specs.Cmac.{chained}

-- a list whose entries are the sums of two lists' entries
pub add_bytes_by_entries : (xs ys zs : List ℕ) → length xs ≡ length zs → length ys ≡ length zs
    → ((k : ℕ) → k < length zs → get_or zs k 0 ≡ bit_xor (get_or xs k 0) (get_or ys k 0)) → zs ≡ add_bytes xs ys
add_bytes_by_entries [] ys zs hx hy at = nil_from_length zs (sym hx)
add_bytes_by_entries (x ∷ xs) [] zs hx hy at = absurd (omega (arith, hx, hy))
add_bytes_by_entries (x ∷ xs) (y ∷ ys) [] hx hy at = absurd (omega (arith, hx))
add_bytes_by_entries (x ∷ xs) (y ∷ ys) (z ∷ zs) hx hy at =
    λ i. at 0 (omega arith) i ∷ add_bytes_by_entries xs ys zs (omega (arith, hx)) (omega (arith, hy)) (λ k lt. at (suc k) (omega (arith, lt))) i

-- one more block
pub chained_next : (key text : List ℕ) (n : ℕ) → chained key text (n + 1) ≡ encrypt key (add_bytes (chained key text n) (take 16 (drop (16 * n) text)))
unfolding chained
chained_next key text n = let next : n + 1 ≡ suc n = omega arith in ap (chained key text) next
