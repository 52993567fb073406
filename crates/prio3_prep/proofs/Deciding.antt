-- Lemmas: the decision on a verifier as a test, and the sum of two verifier shares.
use Rattle.std.proofs.Common.{◌≡◌, ℕ, max, List, length, Bool, true, false, sym, ap, ◌∙◌, refl, arith}
use Rattle.std.specs.Prelude.{◌↔◌, IsTrue}
use Rattle.std.proofs.lemmas.Bool.{and_from, and_parts, eq-eqb, eqb-true}
use Rattle.field_laws.specs.Ring.{Ring}
use Rattle.field_laws.specs.Residues.{Residues}
use Rattle.field_laws.specs.Polynomial.{add_polynomials}
use Rattle.field_laws.proofs.Modulo.{same_number}
use Rattle.field_laws.proofs.Polynomials.{length-add}
use Rattle.flp_circuits.specs.Shape.{Shape}
use Rattle.flp_proof.specs.Proof.{Accepts}
use Rattle.prio3_share.specs.Base.{Base}
use Rattle.prio3_share.specs.Preparing.{accepts}

pub length-sum : {F : Type 0} (ring : Ring F) (x y : List F) (n : ℕ) → length x ≡ n → length y ≡ n → length (add_polynomials ring x y) ≡ n
length-sum ring x y n ex ey = length-add ring x y ∙ (let m : max (length x) (length y) ≡ n = omega arith in m)

module _ {F : Type 0} (b : Base F) (c : Shape F) (kind : ℕ) where
  pub accepted : (v : List F) → Accepts b.ring c v → accepts b c kind v ≡ true
  accepted v a = and_from _ _ (eq-eqb _ _ (ap b.number a.0)) (eq-eqb _ _ (ap b.number a.1))

  pub accepts-back : Residues b.modulus b.number b.residue → (v : List F) → accepts b c kind v ≡ true → Accepts b.ring c v
  accepts-back residues v e =
      let k = and_parts _ _ e in
      (same_number residues _ _ (eqb-true _ _ k.0), same_number residues _ _ (eqb-true _ _ k.1))

  pub decides : Residues b.modulus b.number b.residue → (v : List F) (r : Bool) → (IsTrue r ↔ Accepts b.ring c v) → r ≡ accepts b c kind v
  decides residues v true h = sym (accepted v (h.0 refl))
  decides residues v false h = go (accepts b c kind v) refl
    where
      go : (a : Bool) → accepts b c kind v ≡ a → false ≡ accepts b c kind v
      go true e = absurd (let n : false ≡ true = h.1 (accepts-back residues v e) in cc)
      go false e = sym e
