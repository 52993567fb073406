-- Bytes and numbers lead back to one another.
use Rattle.std.proofs.Common.{◌≡◌, ℕ, zero, suc, ◌+◌, ◌-◌, ◌*◌, ◌/◌, ◌%◌, ◌^◌, ◌<◌, ◌≤◌, List, [], ◌∷◌, length, length-drop, get_or, drop, ap, ◌∙◌, refl, arith}
use Rattle.std.proofs.Math.Nat.{pow-suc, pow-le-pow_right}
use Rattle.std.proofs.Math.Seq.{drop-cons}
use Rattle.field_laws.specs.Bytes.{low_bytes, from_low}

pub low_bytes-from_low : (bs : List ℕ) → ((i : ℕ) → get_or bs i 0 < 256) → low_bytes (length bs) (from_low bs) ≡ bs
unfolding low_bytes from_low
low_bytes-from_low [] small = refl
low_bytes-from_low (b ∷ bs) small =
    let b_small : b < 256 = small 0 in
    ap (λ x. x ∷ low_bytes (length bs) ((b + from_low bs * 256) / 256)) (let e : (b + from_low bs * 256) % 256 ≡ b = omega arith in e)
    ∙ ap (λ v. b ∷ low_bytes (length bs) v) (let e : (b + from_low bs * 256) / 256 ≡ from_low bs = omega arith in e)
    ∙ ap (λ l. b ∷ l) (low_bytes-from_low bs (λ i. small (suc i)))

pub from_low-below : (bs : List ℕ) → ((i : ℕ) → get_or bs i 0 < 256) → from_low bs < 256 ^ length bs
unfolding from_low
from_low-below [] small = omega arith
from_low-below (b ∷ bs) small =
    let b_small : b < 256 = small 0 in
    omega (arith, pow-suc 256 (length bs), from_low-below bs (λ i. small (suc i)))

pub low_bytes-step : (n v : ℕ) → 0 < n → low_bytes n v ≡ v % 256 ∷ low_bytes (n - 1) (v / 256)
unfolding low_bytes
low_bytes-step zero v h = absurd (omega arith)
low_bytes-step (suc n) v h = ap (λ k. v % 256 ∷ low_bytes k (v / 256)) (let e : n ≡ suc n - 1 = omega arith in e)

pub from_low-step : (bs : List ℕ) (i : ℕ) → i < length bs → from_low (drop i bs) ≡ get_or bs i 0 + from_low (drop (suc i) bs) * 256
unfolding from_low
from_low-step bs i h = ap from_low (drop-cons bs i 0 h)

pub get_or-drop_small : (bs : List ℕ) (k : ℕ) → ((i : ℕ) → get_or bs i 0 < 256) → (i : ℕ) → get_or (drop k bs) i 0 < 256
get_or-drop_small bs zero small i = small i
get_or-drop_small [] (suc k) small i = small i
get_or-drop_small (b ∷ bs) (suc k) small i = get_or-drop_small bs k (λ j. small (suc j)) i

-- sixteen bytes at most fit 128 bits, from any place on
pub from_low-fits : (bs : List ℕ) (k : ℕ) → length bs ≤ 16 → ((i : ℕ) → get_or bs i 0 < 256) → from_low (drop k bs) < 340282366920938463463374607431768211456
from_low-fits bs k short small =
    let below : from_low (drop k bs) < 256 ^ length (drop k bs) = from_low-below (drop k bs) (get_or-drop_small bs k small) in
    let room : 256 ^ length (drop k bs) ≤ 256 ^ 16 = pow-le-pow_right {n = 256} (omega arith) (let e : length (drop k bs) ≤ 16 = omega (arith, length-drop k bs) in e) in
    omega arith

pub length-low_bytes : (n v : ℕ) → length (low_bytes n v) ≡ n
unfolding low_bytes
length-low_bytes zero v = refl
length-low_bytes (suc n) v = ap suc (length-low_bytes n (v / 256))

pub from_low-low_bytes : (n v : ℕ) → v < 256 ^ n → from_low (low_bytes n v) ≡ v
unfolding low_bytes from_low
from_low-low_bytes zero v h = omega arith
from_low-low_bytes (suc n) v h =
    ap (λ m. v % 256 + m * 256) (from_low-low_bytes n (v / 256) (omega (arith, pow-suc 256 n))) ∙ omega arith
