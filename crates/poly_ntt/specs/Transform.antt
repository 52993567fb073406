-- The values of a polynomial at the powers of a root, and the order in which halving leaves them.
use Rattle.std.specs.Prelude.{◌≡◌, ℕ, ◌+◌, ◌-◌, ◌*◌, ◌^◌, ◌<◌, List, [], ◌∷◌, ◌++◌, map, length, take, drop, nat_lt, if◌then◌else◌, slice_index_or}
use Rattle.std.specs.List.{range_with_len}
use Rattle.std.proofs.Common.{zero, suc}
use Rattle.field_laws.specs.Ring.{Ring, power, minus}
use Rattle.field_laws.specs.Polynomial.{eval, add_polynomials}

-- the values at the first n powers of x
abbrev pub values_at_powers : {F : Type 0} → Ring F → F → ℕ → List F → List F
values_at_powers ring x n p = map (λ k. eval ring p (power ring x k)) (range_with_len 0 n)

-- i with its l binary digits in reverse
unfoldable pub reversed : ℕ → ℕ → ℕ
reversed zero i = 0
reversed (suc l) i = if nat_lt i (2 ^ l) then 2 * reversed l i else 2 * reversed l (i - 2 ^ l) + 1

-- the entries a_i - b_i times w x ^ i
unfoldable pub twisted : {F : Type 0} → Ring F → F → F → List F → List F → List F
twisted ring x w [] bs = []
twisted ring x w (a ∷ us) [] = []
twisted ring x w (a ∷ us) (b ∷ bs) = ring.mul (minus ring a b) w ∷ twisted ring x (ring.mul w x) us bs

-- the sums of the two halves before their twisted differences, and the same again in each half
unfoldable pub halving : {F : Type 0} → Ring F → (ℕ → F) → ℕ → List F → List F
halving ring root zero p = p
halving ring root (suc l) p =
    halving ring root l (add_polynomials ring (take (2 ^ l) p) (drop (2 ^ l) p)) ++ halving ring root l (twisted ring (root (l + 1)) ring.unit (take (2 ^ l) p) (drop (2 ^ l) p))

-- entry 0 stays, and behind it the entries stand in reverse
pub record ReversesRest {X : Type 0} (d : X) (n : ℕ) (old now : List X) : Type 0 where
  pub size : length now ≡ n
  pub first : slice_index_or now 0 d ≡ slice_index_or old 0 d
  pub others : (k : ℕ) → 0 < k → k < n → slice_index_or now k d ≡ slice_index_or old (n - k) d
