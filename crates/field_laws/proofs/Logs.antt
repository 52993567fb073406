-- Exponents of powers of two.
use Rattle.std.proofs.Common.{◌≡◌, ℕ, suc, ◌*◌, ◌^◌, ◌<◌, ◌≤◌, ◌⊎◌, inl, inr, ◌∙◌, arith}
use Rattle.std.proofs.Math.Nat.{pow-suc}
use Rattle.std.proofs.Math.Pow.{pow_mono}
use Rattle.std.proofs.lemmas.Nat.{pow_below, pow_pos}
use Rattle.std.proofs.lemmas.Bool.{cases_lt}

pub exponent_below : (a b : ℕ) → 2 ^ a < 2 ^ b → a < b
exponent_below a b h = cases (cases_lt a b)
  where
    cases : (a < b) ⊎ (b ≤ a) → a < b
    cases (inl lt) = lt
    cases (inr le) = let wrong : 2 ^ b ≤ 2 ^ a = pow_mono le in absurd (omega arith)

pub same_exponent : (a b : ℕ) → 2 ^ a ≡ 2 ^ b → a ≡ b
same_exponent a b e = cases (cases_lt a b) (cases_lt b a)
  where
    cases : (a < b) ⊎ (b ≤ a) → (b < a) ⊎ (a ≤ b) → a ≡ b
    cases (inl lt) s = let wrong : 2 ^ a < 2 ^ b = pow_below a b lt in absurd (omega arith)
    cases (inr le) (inl lt) = let wrong : 2 ^ b < 2 ^ a = pow_below b a lt in absurd (omega arith)
    cases (inr le) (inr other) = omega arith

-- the exponent of the greatest power of two that is not above a power of two
pub log_is : (n r log : ℕ) → 2 ^ r ≤ n → n < 2 * 2 ^ r → n ≡ 2 ^ log → r ≡ log
log_is n r log low high is =
    let next : 2 ^ suc r ≡ 2 * 2 ^ r = pow-suc 2 r ∙ (let e : 2 ^ r * 2 ≡ 2 * 2 ^ r = omega arith in e) in
    let below : log < suc r = exponent_below log (suc r) (omega (arith, is, high, next)) in
    let above : r < suc log = exponent_below r (suc log) (omega (arith, is, low, pow-suc 2 log, pow_pos log)) in
    omega arith
