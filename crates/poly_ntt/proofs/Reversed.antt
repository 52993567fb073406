-- Turning the digits round twice changes nothing.
use Rattle.std.proofs.Common.{◌≡◌, ℕ, zero, suc, ◌+◌, ◌-◌, ◌*◌, ◌/◌, ◌%◌, ◌^◌, ◌<◌, ◌≤◌, ◌⊎◌, inl, inr, sym, ap, ◌∙◌, refl, arith}
use Rattle.std.proofs.Math.Nat.{pow-suc}
use Rattle.std.proofs.lemmas.Bool.{cases_lt}
use Rattle.poly_ntt.specs.Transform.{reversed}
use Rattle.poly_ntt.proofs.Halving.{reversed-low, reversed-high}

twice : (l : ℕ) → 2 ^ suc l ≡ 2 * 2 ^ l
twice l = pow-suc 2 l ∙ (let e : 2 ^ l * 2 ≡ 2 * 2 ^ l = omega arith in e)

pub reversed-zero : (i : ℕ) → reversed 0 i ≡ 0
unfolding reversed
reversed-zero i = refl

bound_step : (l i : ℕ) → ((j : ℕ) → j < 2 ^ l → reversed l j < 2 ^ l) → i < 2 ^ suc l → (i < 2 ^ l) ⊎ (2 ^ l ≤ i) → reversed (suc l) i < 2 ^ suc l
bound_step l i below small (inl low) = omega (arith, reversed-low l i low, below i low, twice l)
bound_step l i below small (inr high) = omega (arith, reversed-high l i high, below (i - 2 ^ l) (omega (arith, twice l)), twice l)

pub reversed-below : (l i : ℕ) → i < 2 ^ l → reversed l i < 2 ^ l
reversed-below zero i h = omega (arith, reversed-zero i)
reversed-below (suc l) i h = bound_step l i (λ j hj. reversed-below l j hj) h (cases_lt i (2 ^ l))

-- by the lowest digit
low_step : (l i : ℕ) → ((j : ℕ) → j < 2 ^ suc l → reversed (suc l) j ≡ j % 2 * 2 ^ l + reversed l (j / 2)) → i < 2 ^ suc (suc l) → (i < 2 ^ suc l) ⊎ (2 ^ suc l ≤ i)
    → reversed (suc (suc l)) i ≡ i % 2 * 2 ^ suc l + reversed (suc l) (i / 2)
low_step l i below small (inl low) =
    reversed-low (suc l) i low ∙ ap (λ n. 2 * n) (below i low)
    ∙ (let e : 2 * (i % 2 * 2 ^ l + reversed l (i / 2)) ≡ i % 2 * (2 * 2 ^ l) + 2 * reversed l (i / 2) = omega arith in e)
    ∙ ap (λ n. i % 2 * n + 2 * reversed l (i / 2)) (sym (twice l))
    ∙ ap (λ n. i % 2 * 2 ^ suc l + n) (sym (reversed-low l (i / 2) (omega (arith, twice l))))
low_step l i below small (inr high) =
    let j : ℕ = i - 2 ^ suc l in
    reversed-high (suc l) i high ∙ ap (λ n. 2 * n + 1) (below j (omega (arith, twice (suc l))))
    ∙ (let e : 2 * (j % 2 * 2 ^ l + reversed l (j / 2)) + 1 ≡ j % 2 * (2 * 2 ^ l) + (2 * reversed l (j / 2) + 1) = omega arith in e)
    ∙ ap (λ n. j % 2 * n + (2 * reversed l (j / 2) + 1)) (sym (twice l))
    ∙ ap (λ n. n * 2 ^ suc l + (2 * reversed l (j / 2) + 1)) (let e : j % 2 ≡ i % 2 = omega (arith, twice l) in e)
    ∙ ap (λ n. i % 2 * 2 ^ suc l + (2 * reversed l n + 1)) (let e : j / 2 ≡ i / 2 - 2 ^ l = omega (arith, twice l) in e)
    ∙ ap (λ n. i % 2 * 2 ^ suc l + n) (sym (reversed-high l (i / 2) (omega (arith, twice l))))

single : (i : ℕ) → i < 2 → (i < 1) ⊎ (1 ≤ i) → reversed 1 i ≡ i % 2 * 1 + reversed 0 (i / 2)
single i h (inl low) = reversed-low 0 i low ∙ (let e : 2 * reversed 0 i ≡ i % 2 * 1 + reversed 0 (i / 2) = omega (arith, reversed-zero i, reversed-zero (i / 2)) in e)
single i h (inr high) = reversed-high 0 i high ∙ (let e : 2 * reversed 0 (i - 1) + 1 ≡ i % 2 * 1 + reversed 0 (i / 2) = omega (arith, reversed-zero (i - 1), reversed-zero (i / 2)) in e)

pub reversed-by_low : (l i : ℕ) → i < 2 ^ suc l → reversed (suc l) i ≡ i % 2 * 2 ^ l + reversed l (i / 2)
reversed-by_low zero i h = single i h (cases_lt i 1)
reversed-by_low (suc l) i h = low_step l i (λ j hj. reversed-by_low l j hj) h (cases_lt i (2 ^ suc l))

again_step : (l i : ℕ) → ((j : ℕ) → j < 2 ^ l → reversed l (reversed l j) ≡ j) → i < 2 ^ suc l → (i < 2 ^ l) ⊎ (2 ^ l ≤ i) → reversed (suc l) (reversed (suc l) i) ≡ i
again_step l i below small (inl low) =
    let j : ℕ = reversed (suc l) i in
    let is : j ≡ 2 * reversed l i = reversed-low l i low in
    reversed-by_low l j (reversed-below (suc l) i small)
    ∙ ap (λ n. n * 2 ^ l + reversed l (j / 2)) (let e : j % 2 ≡ 0 = omega (arith, is) in e)
    ∙ ap (λ n. 0 * 2 ^ l + reversed l n) (let e : j / 2 ≡ reversed l i = omega (arith, is) in e)
    ∙ (let e : 0 * 2 ^ l + reversed l (reversed l i) ≡ i = omega (arith, below i low) in e)
again_step l i below small (inr high) =
    let j : ℕ = reversed (suc l) i in
    let k : ℕ = i - 2 ^ l in
    let is : j ≡ 2 * reversed l k + 1 = reversed-high l i high in
    reversed-by_low l j (reversed-below (suc l) i small)
    ∙ ap (λ n. n * 2 ^ l + reversed l (j / 2)) (let e : j % 2 ≡ 1 = omega (arith, is) in e)
    ∙ ap (λ n. 1 * 2 ^ l + reversed l n) (let e : j / 2 ≡ reversed l k = omega (arith, is) in e)
    ∙ (let e : 1 * 2 ^ l + reversed l (reversed l k) ≡ i = omega (arith, below k (omega (arith, twice l))) in e)

pub reversed-again : (l i : ℕ) → i < 2 ^ l → reversed l (reversed l i) ≡ i
reversed-again zero i h = reversed-zero (reversed 0 i) ∙ (let e : 0 ≡ i = omega arith in e)
reversed-again (suc l) i h = again_step l i (λ j hj. reversed-again l j hj) h (cases_lt i (2 ^ l))
