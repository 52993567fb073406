-- A number p = d e is prime where an element of its residues is minus one when squared n times, and p is below the square of 2 ^ (n + 1).
use Rattle.std.proofs.Common.{◌≡◌, ◌≢◌, ℕ, zero, suc, [], ◌+◌, ◌-◌, ◌*◌, ◌/◌, ◌%◌, ◌^◌, ◌<◌, ◌≤◌, ◌⊎◌, inl, inr, sym, ap, ◌∙◌, refl, arith, lit≤}
use Rattle.std.proofs.Math.Nat.{pow-suc, mul_comm, mul_assoc, mul-add, mul-zero, div-add-mod, mul-add-mod_self_left, mod-lt, mul-le-mul, zero-mul}
use Rattle.std.proofs.lemmas.Bool.{cases_lt}
use Rattle.field_laws.specs.Ring.{Ring, RingLaws, RootLaws, power}
use Rattle.field_laws.specs.Residues.{Residues, residue_ring}
use Rattle.field_laws.specs.Primes.{IsPrime}
use Rattle.field_laws.proofs.Modulo.{residue_ring_laws, residue-mul, same_residue, same_number, number-small, modular}
use Rattle.field_laws.proofs.Powers.{power-zero, power-suc, power-add, power-mul, power-double, power-two}
use Rattle.field_laws.proofs.Compute.{neg-unit_square}
use Rattle.field_laws.proofs.Orders.{parity, power-neg_odd}
use Rattle.field_laws.proofs.Solve.{mul-nought, nought-mul, add-mul}
use Rattle.field_laws.proofs.Pigeons.{pigeons}

module _ {F : Type 0} {ring : Ring F} (laws : RingLaws ring) where
  -- what y leaves as it is, its powers leave too
  power_kept : (e y : F) (k : ℕ) → ring.mul e y ≡ e → ring.mul e (power ring y k) ≡ e
  power_kept e y zero h = ap (ring.mul e) (power-zero laws y) ∙ laws.mul-unit e
  power_kept e y (suc k) h = ap (ring.mul e) (power-suc laws y k) ∙ sym (laws.mul_assoc e y (power ring y k)) ∙ ap (λ a. ring.mul a (power ring y k)) h ∙ power_kept e y k h

  -- what minus one leaves as it is, is nought
  turned_nought : (half e : F) → ring.add half half ≡ ring.unit → ring.mul e (ring.neg ring.unit) ≡ e → e ≡ ring.nought
  turned_nought half e halves h =
      let two : ring.add e e ≡ ring.nought =
      ap (λ a. ring.add a e) (sym (laws.mul-unit e)) ∙ ap (ring.add (ring.mul e ring.unit)) (sym h) ∙ sym (laws.mul-add e ring.unit (ring.neg ring.unit)) ∙ ap (ring.mul e) (laws.add-neg ring.unit) ∙ mul-nought laws [] e in
      sym (laws.mul-unit e) ∙ ap (ring.mul e) (sym halves) ∙ laws.mul-add e half half ∙ sym (add-mul laws [] e e half) ∙ ap (λ a. ring.mul a half) two ∙ nought-mul laws [] half

  -- so is what an odd power of such an x leaves as it is, whose 2 ^ n-th power is minus one
  odd_kept : (half e : F) → ring.add half half ≡ ring.unit → (n : ℕ) (x : F) (k : ℕ) → power ring x (2 ^ n) ≡ ring.neg ring.unit → k % 2 ≡ 1 → ring.mul e (power ring x k) ≡ e → e ≡ ring.nought
  odd_kept half e halves n x k turn odd h =
      turned_nought half e halves
      (ap (ring.mul e) (sym (power-neg_odd laws k odd) ∙ ap (λ y. power ring y k) (sym turn) ∙ sym (power-mul laws x (2 ^ n) k) ∙ ap (power ring x) (mul_comm (2 ^ n) k) ∙ power-mul laws x k (2 ^ n))
      ∙ power_kept e (power ring x k) (2 ^ n) h)

  -- a power before the 2 ^ (n + 1)-th leaves nothing but nought as it is, where the 2 ^ n-th is minus one
  pub early_kept : (half e : F) → ring.add half half ≡ ring.unit → (n : ℕ) (x : F) (k : ℕ) → power ring x (2 ^ n) ≡ ring.neg ring.unit → 0 < k → k < 2 ^ (n + 1) → ring.mul e (power ring x k) ≡ e → e ≡ ring.nought
  early_kept half e halves zero x k turn some below h =
      odd_kept half e halves zero x k turn (let b : k < 2 ^ 1 = below in let two : 2 ^ 1 ≡ 2 = refl in omega arith) h
  early_kept half e halves (suc n) x k turn some below h =
      let doubled : 2 ^ suc n ≡ 2 * 2 ^ n = pow-suc 2 n ∙ mul_comm (2 ^ n) 2 in
      elim (parity k) [
        | inl even ↦ early_kept half e halves n (ring.mul x x) (k / 2)
            (sym (power-double laws x (2 ^ n)) ∙ ap (power ring x) (sym doubled) ∙ turn)
            (omega arith)
            (let s : 2 ^ (suc n + 1) ≡ 2 ^ suc (n + 1) = ap (λ j. 2 ^ j) (let a : suc n + 1 ≡ suc (n + 1) = omega arith in a) in omega (arith, s, pow-suc 2 (n + 1)))
            (ap (ring.mul e) (sym (power-double laws x (k / 2)) ∙ ap (power ring x) (let s : 2 * (k / 2) ≡ k = omega arith in s)) ∙ h)
        | inr odd ↦ odd_kept half e halves (suc n) x k turn odd h
      ]

  -- the 2 ^ (n + 1)-th power is one
  turned_twice : (n : ℕ) (x : F) → power ring x (2 ^ n) ≡ ring.neg ring.unit → power ring x (2 ^ (n + 1)) ≡ ring.unit
  turned_twice n x turn =
      ap (power ring x) (ap (λ j. 2 ^ j) (let e : n + 1 ≡ suc n = omega arith in e) ∙ pow-suc 2 n) ∙ power-mul laws x (2 ^ n) 2 ∙ ap (λ y. power ring y 2) turn ∙ power-two laws (ring.neg ring.unit) ∙ neg-unit_square laws

  -- where two powers agree on e, e is nought
  pub apart_powers : (half e : F) → ring.add half half ≡ ring.unit → (n : ℕ) (x : F) (i j : ℕ) → power ring x (2 ^ n) ≡ ring.neg ring.unit → i < j → j < 2 ^ (n + 1)
      → ring.mul e (power ring x i) ≡ ring.mul e (power ring x j) → e ≡ ring.nought
  apart_powers half e halves n x i j turn low high same =
      let m : ℕ = 2 ^ (n + 1) in
      let whole : power ring x m ≡ ring.unit = turned_twice n x turn in
      early_kept half e halves n x (j - i) turn (omega arith) (omega arith)
      (sym (laws.mul-unit _) ∙ ap (ring.mul (ring.mul e (power ring x (j - i)))) (sym whole)
      ∙ laws.mul_assoc e (power ring x (j - i)) (power ring x m)
      ∙ ap (ring.mul e) (sym (power-add laws x (j - i) m) ∙ ap (power ring x) (let s : (j - i) + m ≡ j + (m - i) = omega arith in s) ∙ power-add laws x j (m - i))
      ∙ sym (laws.mul_assoc e (power ring x j) (power ring x (m - i)))
      ∙ ap (λ a. ring.mul a (power ring x (m - i))) (sym same)
      ∙ laws.mul_assoc e (power ring x i) (power ring x (m - i))
      ∙ ap (ring.mul e) (sym (power-add laws x i (m - i)) ∙ ap (power ring x) (let s : i + (m - i) ≡ m = omega arith in s) ∙ whole)
      ∙ laws.mul-unit e)

-- numbers that are one modulo d, times e, are one modulo e d
scaled_rest : (d e a b : ℕ) → a % d ≡ b % d → (e * a) % (e * d) ≡ (e * b) % (e * d)
scaled_rest d e a b same = rest a ∙ ap (λ r. (e * r) % (e * d)) same ∙ sym (rest b)
  where
    rest : (c : ℕ) → (e * c) % (e * d) ≡ (e * (c % d)) % (e * d)
    rest c =
        ap (λ x. x % (e * d)) (ap (λ y. e * y) (sym (div-add-mod c d)) ∙ mul-add e (d * (c / d)) (c % d) ∙ ap (λ y. y + e * (c % d)) (sym (mul_assoc e d (c / d))))
        ∙ mul-add-mod_self_left (e * d) (c / d) (e * (c % d))

module _ {F : Type 0} {p : ℕ} {number : F → ℕ} {residue : ℕ → F} (residues : Residues p number residue) where
  -- a factor above one is at least the order: the powers before it are different modulo that factor
  factor_large : (half x : F) (n d e : ℕ) → (residue_ring p number residue).add half half ≡ (residue_ring p number residue).unit
      → power (residue_ring p number residue) x (2 ^ n) ≡ (residue_ring p number residue).neg (residue_ring p number residue).unit
      → d * e ≡ p → 1 < d → 2 ^ (n + 1) ≤ d
  factor_large half x n d e halves turn factors other =
      let ring : Ring F = residue_ring p number residue in
      let laws = residue_ring_laws residues in
      let ed : e * d ≡ p = mul_comm e d ∙ factors in
      let some : 0 < e = positive e factors in
      let small : e < p = below e other some factors in
      let h : ℕ → ℕ = λ i. number (power ring x i) % d in
      pigeons d (2 ^ (n + 1)) h
      (λ i within. mod-lt (number (power ring x i)) (omega arith))
      (λ i j low high same.
      let times : (k : ℕ) → ring.mul (residue e) (power ring x k) ≡ residue (e * number (power ring x k)) =
      λ k. ap (ring.mul (residue e)) (sym (residues.residue-number (power ring x k))) ∙ residue-mul residues e (number (power ring x k)) in
      let agree : ring.mul (residue e) (power ring x i) ≡ ring.mul (residue e) (power ring x j) =
      times i ∙ same_residue residues _ _ (ap (λ q. (e * number (power ring x i)) % q) (sym ed) ∙ scaled_rest d e (number (power ring x i)) (number (power ring x j)) same ∙ ap (λ q. (e * number (power ring x j)) % q) ed) ∙ sym (times j) in
      let gone : residue e ≡ ring.nought = apart_powers laws half (residue e) halves n x i j turn low high agree in
      let none : e ≡ 0 = sym (number-small residues e small) ∙ ap number gone ∙ number-small residues 0 (omega (arith, residues.large)) in
      omega arith)
    where
      positive : (e : ℕ) → d * e ≡ p → 0 < e
      positive zero f = absurd (let z : 0 ≡ p = sym (mul-zero d) ∙ f in omega (arith, residues.large))
      positive (suc e) f = omega arith

      below : (e : ℕ) → 1 < d → 0 < e → d * e ≡ p → e < p
      below e large some f =
          let more : 2 * e ≤ d * e = mul-le-mul (let l : 2 ≤ d = omega arith in l) (let l : e ≤ e = omega arith in l) in
          omega arith

  -- Proth's test, for any odd part: p is prime
  pub proth : (half x : F) (n : ℕ) → (residue_ring p number residue).add half half ≡ (residue_ring p number residue).unit
      → power (residue_ring p number residue) x (2 ^ n) ≡ (residue_ring p number residue).neg (residue_ring p number residue).unit
      → p < 2 ^ (n + 1) * 2 ^ (n + 1) → IsPrime p
  proth half x n halves turn bound = record {
    above_one = residues.large;
    factors = λ d e f. cases d e f (cases_lt 1 d) (cases_lt 1 e);
  }
    where
      not_zero : (d e : ℕ) → d * e ≡ p → 0 < d
      not_zero zero e f = absurd (let z : 0 ≡ p = sym (zero-mul e) ∙ f in omega (arith, residues.large))
      not_zero (suc d) e f = omega arith

      cases : (d e : ℕ) → d * e ≡ p → (1 < d) ⊎ (d ≤ 1) → (1 < e) ⊎ (e ≤ 1) → (d ≡ 1) ⊎ (e ≡ 1)
      cases d e f (inr small) any = inl (omega (arith, not_zero d e f))
      cases d e f (inl large) (inr small) = inr (omega (arith, not_zero e d (mul_comm e d ∙ f)))
      cases d e f (inl large) (inl other) =
          absurd (
          let first : 2 ^ (n + 1) ≤ d = factor_large half x n d e halves turn f large in
          let second : 2 ^ (n + 1) ≤ e = factor_large half x n e d halves turn (mul_comm e d ∙ f) other in
          let more : 2 ^ (n + 1) * 2 ^ (n + 1) ≤ d * e = mul-le-mul first second in
          omega arith)

  differs : {ring : Ring F} → ring ≡ residue_ring p number residue → ring.unit ≢ ring.nought
  differs is_ring same =
      let counts = modular residues is_ring in
      let one : ℕ = 1 in
      let e : one ≡ 0 = sym counts.unit ∙ ap number same ∙ counts.nought in
      omega arith

  -- the powers of a root before its order are different
  pub different_powers : {ring : Ring F} → ring ≡ residue_ring p number residue → RingLaws ring → (half : F) (root : ℕ → F) → ring.add half half ≡ ring.unit → RootLaws ring 16 root
      → (log : ℕ) → log ≤ 16 → (i j : ℕ) → i < j → j < 2 ^ log → power ring (root log) i ≢ power ring (root log) j
  different_powers is_ring laws half root halves roots zero few i j low high same = absurd (let one : 2 ^ 0 ≡ 1 = refl in omega arith)
  different_powers {ring = ring} is_ring laws half root halves roots (suc n) few i j low high same =
      let turn : power ring (root (suc n)) (2 ^ n) ≡ ring.neg ring.unit =
      ap (λ m. power ring (root m) (2 ^ n)) (let e : suc n ≡ n + 1 = omega arith in e) ∙ roots.turns n (omega arith) in
      differs is_ring
      (apart_powers laws half ring.unit halves n (root (suc n)) i j turn low (let e : 2 ^ suc n ≡ 2 ^ (n + 1) = ap (λ m. 2 ^ m) (let a : suc n ≡ n + 1 = omega arith in a) in omega arith) (ap (ring.mul ring.unit) same))

  -- p is at least 2 ^ 16, the order of the last root, whose powers are different
  pub modulus_large : {ring : Ring F} → ring ≡ residue_ring p number residue → RingLaws ring → (half : F) (root : ℕ → F) → ring.add half half ≡ ring.unit → RootLaws ring 16 root → 65536 ≤ p
  modulus_large {ring = ring} is_ring laws half root halves roots =
      let many : 2 ^ 16 ≤ p = pigeons p (2 ^ 16) (λ i. number (power ring (root 16) i))
      (λ i within. residues.below (power ring (root 16) i))
      (λ i j low high same. different_powers is_ring laws half root halves roots 16 (lit≤ tt) i j low high (same_number residues _ _ same)) in
      many
