-- The ring laws of the residues modulo p, once for every p.
use Rattle.std.proofs.Common.{◌≡◌, ℕ, zero, suc, ◌+◌, ◌-◌, ◌*◌, ◌/◌, ◌%◌, ◌^◌, ◌<◌, inl, inr, sym, subst, ap, ◌∙◌, arith, add_assoc}
use Rattle.std.proofs.Math.Nat.{mod-add-mod, add-mod-mod, mod-eq_of_lt, mod-eq-sub-mod, mod_self, add_comm, mul_comm, mul_assoc, mul-add, mul-one, pow-suc, pow-zero}
use Rattle.std.proofs.lemmas.Bool.{cases_lt}
use Rattle.std.proofs.lemmas.Nat.{mul-mod_first, mul-mod_second}
use Rattle.field_laws.specs.Ring.{Ring, RingLaws, power}
use Rattle.field_laws.specs.Residues.{Residues, residue_ring, IsModular}

module _ {F : Type 0} {p : ℕ} {number : F → ℕ} {residue : ℕ → F} (laws : Residues p number residue) where
  -- equal numbers are equal residues
  pub same_number : (a b : F) → number a ≡ number b → a ≡ b
  same_number a b e = sym (laws.residue-number a) ∙ ap residue e ∙ laws.residue-number b

  -- an element whose number is the rest of n is the residue of n
  pub residue_by_number : (x : F) (n : ℕ) → number x ≡ n % p → x ≡ residue n
  residue_by_number x n e = same_number x (residue n) (e ∙ sym (laws.number-residue n))

  pub same_residue : (m n : ℕ) → m % p ≡ n % p → residue m ≡ residue n
  same_residue m n e = same_number _ _ (laws.number-residue m ∙ e ∙ sym (laws.number-residue n))

  pub number-small : (n : ℕ) → n < p → number (residue n) ≡ n
  number-small n h = laws.number-residue n ∙ mod-eq_of_lt h

  pub residue-add : (m n : ℕ) → residue (number (residue m) + number (residue n)) ≡ residue (m + n)
  residue-add m n = same_residue _ _ (ap (λ x. (x + number (residue n)) % p) (laws.number-residue m) ∙ mod-add-mod m p _ ∙ ap (λ x. (m + x) % p) (laws.number-residue n) ∙ add-mod-mod m n p)

  pub residue-mul : (m n : ℕ) → residue (number (residue m) * number (residue n)) ≡ residue (m * n)
  residue-mul m n = same_residue _ _ (ap (λ x. (x * number (residue n)) % p) (laws.number-residue m) ∙ mul-mod_first m _ p ∙ ap (λ x. (m * x) % p) (laws.number-residue n) ∙ mul-mod_second m n p)

  -- the ring's sum of two numbers' residues, and the residues that are its nought and unit
  pub residue-plus : {ring : Ring F} → ring ≡ residue_ring p number residue → (m n : ℕ) → ring.add (residue m) (residue n) ≡ residue (m + n)
  residue-plus is_ring m n = ap (λ r. r.add (residue m) (residue n)) is_ring ∙ residue-add m n

  left_add : (m n : ℕ) → residue (number (residue m) + n) ≡ residue (m + n)
  left_add m n = same_residue _ _ (ap (λ x. (x + n) % p) (laws.number-residue m) ∙ mod-add-mod m p n)

  right_add : (m n : ℕ) → residue (m + number (residue n)) ≡ residue (m + n)
  right_add m n = same_residue _ _ (ap (λ x. (m + x) % p) (laws.number-residue n) ∙ add-mod-mod m n p)

  left_mul : (m n : ℕ) → residue (number (residue m) * n) ≡ residue (m * n)
  left_mul m n = same_residue _ _ (ap (λ x. (x * n) % p) (laws.number-residue m) ∙ mul-mod_first m n p)

  right_mul : (m n : ℕ) → residue (m * number (residue n)) ≡ residue (m * n)
  right_mul m n = same_residue _ _ (ap (λ x. (m * x) % p) (laws.number-residue n) ∙ mul-mod_second m n p)

  pub residue_ring_laws : RingLaws (residue_ring p number residue)
  residue_ring_laws = record {
    add_assoc = λ a b c. left_add _ _ ∙ ap residue (add_assoc (number a) (number b) (number c)) ∙ sym (right_add _ _);
    add_comm = λ a b. ap residue (add_comm (number a) (number b));
    add-nought = λ a. ap (λ n. residue (number a + n)) (number-small 0 (omega (arith, laws.large))) ∙ ap residue (let e : number a + 0 ≡ number a = omega arith in e) ∙ laws.residue-number a;
    add-neg = λ a. right_add _ _ ∙ ap residue (let e : number a + (p - number a) ≡ p = omega (arith, laws.below a) in e) ∙ same_residue p 0 (mod_self p ∙ sym (mod-eq_of_lt (omega (arith, laws.large))));
    mul_assoc = λ a b c. left_mul _ _ ∙ ap residue (mul_assoc (number a) (number b) (number c)) ∙ sym (right_mul _ _);
    mul_comm = λ a b. ap residue (mul_comm (number a) (number b));
    mul-unit = λ a. ap (λ n. residue (number a * n)) (number-small 1 laws.large) ∙ ap residue (mul-one (number a)) ∙ laws.residue-number a;
    mul-add = λ a b c. right_mul _ _ ∙ ap residue (mul-add (number a) (number b) (number c)) ∙ sym (residue-add _ _);
  }

  powers-modular : (a : F) (n : ℕ) → number (power (residue_ring p number residue) a n) ≡ (number a ^ n) % p
  unfolding power
  powers-modular a zero = number-small 1 laws.large ∙ sym (mod-eq_of_lt laws.large) ∙ ap (λ m. m % p) (sym (pow-zero (number a)))
  powers-modular a (suc n) =
      laws.number-residue _ ∙ ap (λ m. (number a * m) % p) (powers-modular a n) ∙ mul-mod_second (number a) (number a ^ n) p
      ∙ ap (λ m. m % p) (mul_comm (number a) (number a ^ n) ∙ sym (pow-suc (number a) n))

  pub residue_ring_modular : IsModular p number (residue_ring p number residue)
  residue_ring_modular = record {
    nought = number-small 0 (omega (arith, laws.large));
    unit = number-small 1 laws.large;
    add = λ a b. laws.number-residue (number a + number b);
    minus = λ a b. laws.number-residue _ ∙ ap (λ m. (number a + m) % p) (laws.number-residue (p - number b)) ∙ add-mod-mod (number a) (p - number b) p;
    neg = λ a. laws.number-residue (p - number a);
    mul = λ a b. laws.number-residue (number a * number b);
    power = powers-modular;
  }

  -- the same of a ring that is these residues
  pub modular : {ring : Ring F} → ring ≡ residue_ring p number residue → IsModular p number ring
  modular is_ring = subst (IsModular p number) (sym is_ring) residue_ring_modular

-- what is one when doubled modulo p is (p + 1) / 2
pub half_number : (p h : ℕ) → 1 < p → h < p → (h + h) % p ≡ 1 → h ≡ (p + 1) / 2
half_number p h large below one =
    elim (cases_lt (h + h) p) [
      | inl small ↦ absurd (let e : h + h ≡ 1 = sym (mod-eq_of_lt small) ∙ one in omega arith)
      | inr over ↦ let e : h + h - p ≡ 1 = sym (mod-eq_of_lt (let k : h + h - p < p = omega arith in k)) ∙ sym (mod-eq-sub-mod over) ∙ one in omega arith
    ]
