-- Lemmas: the numbers that bits spell, in the ring of residues.
use Rattle.std.proofs.Common.{◌≡◌, ℕ, zero, suc, ◌+◌, ◌*◌, ◌/◌, ◌%◌, ◌^◌, ◌<◌, sym, ap, ◌∙◌, refl, arith}
use Rattle.std.specs.Prelude.{nat_eq}
use Rattle.std.proofs.Math.Nat.{pow-suc, mul-add, mul_assoc, mul_comm, mul-zero, mul-one, div-add-mod, mod-lt}
use Rattle.std.proofs.lemmas.Nat.{mod-mul-add, pow_pos}
use Rattle.std.proofs.lemmas.List.FromFn.{get_or-map-range_with_len}
use Rattle.field_laws.specs.Ring.{Ring, RingLaws, power}
use Rattle.field_laws.specs.Residues.{Residues, residue_ring}
use Rattle.field_laws.specs.Sums.{sum_to}
use Rattle.field_laws.proofs.Modulo.{residue-plus, residue-mul}
use Rattle.field_laws.proofs.Sums.{sum_same}
use Rattle.flp_circuits.specs.Kinds.{bit, binary, number_of, weighted}

spread : (q e f r : ℕ) → q * (2 * e + f) + r ≡ e * (2 * q) + (r + q * f)
spread q e f r =
    ap (λ k. k + r) (mul-add q (2 * e) f) ∙ ap (λ k. k + q * f + r) (sym (mul_assoc q 2 e) ∙ ap (λ k. k * e) (mul_comm q 2) ∙ mul_comm (2 * q) e)
    ∙ (let k : e * (2 * q) + q * f + r ≡ e * (2 * q) + (r + q * f) = omega arith in k)

digit_room : (q f r : ℕ) → r < q → f < 2 → r + q * f < 2 * q
digit_room q zero r h k = omega (arith, mul-zero q)
digit_room q (suc zero) r h k = omega (arith, mul-one q)
digit_room q (suc (suc f)) r h k = absurd (omega arith)

-- one binary digit more
digit_step : (m q : ℕ) → 0 < q → m % q + q * (m / q % 2) ≡ m % (2 * q)
digit_step m q h =
    let e : ℕ = m / q / 2 in
    let f : ℕ = m / q % 2 in
    let whole : e * (2 * q) + (m % q + q * f) ≡ m = sym (spread q e f (m % q)) ∙ ap (λ k. q * k + m % q) (let d : 2 * (m / q / 2) + m / q % 2 ≡ m / q = omega arith in d) ∙ div-add-mod m q in
    sym (ap (λ k. k % (2 * q)) (sym whole) ∙ mod-mul-add e (2 * q) (m % q + q * f) (digit_room q f (m % q) (mod-lt m h) (omega arith)))

module _ {F : Type 0} {ring : Ring F} {p : ℕ} {number : F → ℕ} {residue : ℕ → F} (laws : RingLaws ring) (residues : Residues p number residue) (is_ring : ring ≡ residue_ring p number residue) where
  times-residue : (m n : ℕ) → ring.mul (residue m) (residue n) ≡ residue (m * n)
  times-residue m n = ap (λ (r : Ring F). r.mul (residue m) (residue n)) is_ring ∙ residue-mul residues m n

  pub unit-residue : ring.unit ≡ residue 1
  unit-residue = ap (λ (r : Ring F). r.unit) is_ring

  pub nought-residue : ring.nought ≡ residue 0
  nought-residue = ap (λ (r : Ring F). r.nought) is_ring

  two_power : (i : ℕ) → power ring (ring.add ring.unit ring.unit) i ≡ residue (2 ^ i)
  unfolding power
  two_power zero = unit-residue
  two_power (suc i) =
      ap (λ x. ring.mul (ring.add x x) (power ring (ring.add ring.unit ring.unit) i)) unit-residue
      ∙ ap (λ x. ring.mul x (power ring (ring.add ring.unit ring.unit) i)) (residue-plus residues is_ring 1 1)
      ∙ ap (ring.mul (residue 2)) (two_power i) ∙ times-residue 2 (2 ^ i) ∙ ap residue (sym (pow-suc 2 i ∙ (let e : 2 ^ i * 2 ≡ 2 * 2 ^ i = omega arith in e)))

  pub bit-residue : (n : ℕ) → n < 2 → bit ring (nat_eq n 1) ≡ residue n
  bit-residue zero h = nought-residue
  bit-residue (suc zero) h = unit-residue
  bit-residue (suc (suc n)) h = absurd (omega arith)

  -- the n lowest binary digits, each times its power of two
  digits : (m n : ℕ) → sum_to ring n (λ i. ring.mul (power ring (ring.add ring.unit ring.unit) i) (bit ring (nat_eq (m / 2 ^ i % 2) 1))) ≡ residue (m % 2 ^ n)
  unfolding sum_to
  digits m zero = nought-residue ∙ ap residue (let e : 0 ≡ m % 1 = omega arith in e)
  digits m (suc n) =
      ap (λ x. ring.add x (ring.mul (power ring (ring.add ring.unit ring.unit) n) (bit ring (nat_eq (m / 2 ^ n % 2) 1)))) (digits m n)
      ∙ ap (ring.add (residue (m % 2 ^ n)))
      (ap (λ x. ring.mul x (bit ring (nat_eq (m / 2 ^ n % 2) 1))) (two_power n) ∙ ap (ring.mul (residue (2 ^ n))) (bit-residue (m / 2 ^ n % 2) (omega arith)) ∙ times-residue (2 ^ n) (m / 2 ^ n % 2))
      ∙ residue-plus residues is_ring (m % 2 ^ n) (2 ^ n * (m / 2 ^ n % 2))
      ∙ ap residue (digit_step m (2 ^ n) (pow_pos n) ∙ ap (λ k. m % k) (sym (pow-suc 2 n ∙ (let e : 2 ^ n * 2 ≡ 2 * 2 ^ n = omega arith in e))))

  -- the lowest digits of m spell its rest
  pub number-binary : (bits m : ℕ) → number_of ring bits (binary ring bits m) ≡ residue (m % 2 ^ bits)
  unfolding weighted
  number-binary bits m =
      sum_same laws bits _ (λ i. ring.mul (power ring (ring.add ring.unit ring.unit) i) (bit ring (nat_eq (m / 2 ^ i % 2) 1)))
      (λ i small. ap (ring.mul (power ring (ring.add ring.unit ring.unit) i)) (get_or-map-range_with_len (λ i. bit ring (nat_eq (m / 2 ^ i % 2) 1)) 0 bits i i ring.nought small (omega arith))) ∙ digits m bits
