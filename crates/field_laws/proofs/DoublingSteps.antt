-- A step of a product by doubling and adding.
use Rattle.std.proofs.Common.{◌≡◌, ℕ, ◌+◌, ◌*◌, ◌/◌, ◌%◌, [], sym, ap, ◌∙◌, arith}
use Rattle.field_laws.specs.Ring.{Ring, RingLaws}
use Rattle.field_laws.specs.Residues.{Residues, residue_ring}
use Rattle.field_laws.proofs.Modulo.{residue-plus}
use Rattle.field_laws.proofs.Solve.{add-mul, mul-nought}

module _ {F : Type 0} {ring : Ring F} {p : ℕ} {number : F → ℕ} {residue : ℕ → F} (laws : RingLaws ring) (residues : Residues p number residue) (is_ring : ring ≡ residue_ring p number residue) where
  -- twice a, k times
  doubled : (a : F) (k : ℕ) → ring.mul (ring.add a a) (residue k) ≡ ring.mul a (residue (2 * k))
  doubled a k =
      add-mul laws [] a a (residue k) ∙ sym (laws.mul-add a (residue k) (residue k))
      ∙ ap (ring.mul a) (residue-plus residues is_ring k k ∙ ap residue (let e : k + k ≡ 2 * k = omega arith in e))

  pub doubling_even : (s a : F) (n : ℕ) → n % 2 ≡ 0 → ring.add s (ring.mul (ring.add a a) (residue (n / 2))) ≡ ring.add s (ring.mul a (residue n))
  doubling_even s a n h = ap (ring.add s) (doubled a (n / 2) ∙ ap (λ k. ring.mul a (residue k)) (let e : 2 * (n / 2) ≡ n = omega arith in e))

  pub doubling_odd : (s a : F) (n : ℕ) → n % 2 ≡ 1 → ring.add (ring.add s a) (ring.mul (ring.add a a) (residue (n / 2))) ≡ ring.add s (ring.mul a (residue n))
  doubling_odd s a n h =
      laws.add_assoc s a _
      ∙ ap (ring.add s) (ap (ring.add a) (doubled a (n / 2)) ∙ ap (λ x. ring.add x (ring.mul a (residue (2 * (n / 2))))) (sym (laws.mul-unit a))
      ∙ sym (laws.mul-add a ring.unit (residue (2 * (n / 2))))
      ∙ ap (ring.mul a) (ap (λ u. ring.add u (residue (2 * (n / 2)))) (ap (λ r. r.unit) is_ring) ∙ residue-plus residues is_ring 1 (2 * (n / 2)))
      ∙ ap (λ k. ring.mul a (residue k)) (let e : 1 + 2 * (n / 2) ≡ n = omega arith in e))

  pub doubling_first : (a b : F) → ring.add ring.nought (ring.mul a (residue (number b))) ≡ ring.mul a b
  doubling_first a b = laws.add_comm ring.nought _ ∙ laws.add-nought _ ∙ ap (ring.mul a) (residues.residue-number b)

  pub doubling_last : (s a : F) → ring.add s (ring.mul a (residue 0)) ≡ s
  doubling_last s a = ap (λ z. ring.add s (ring.mul a z)) (sym (ap (λ r. r.nought) is_ring)) ∙ ap (ring.add s) (mul-nought laws [] a) ∙ laws.add-nought s
