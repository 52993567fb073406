-- Lemmas: the query point, and whether it is a root.
use Rattle.std.proofs.Common.{◌≡◌, ◌≢◌, ℕ, ◌^◌, List, [], ◌∷◌, true, false, Some, ap, refl, arith}
use Rattle.std.proofs.lemmas.Bool.Decides.{nat_tests}
use Rattle.field_laws.specs.Ring.{power}
use Rattle.field_laws.specs.Residues.{Residues}
use Rattle.field_laws.proofs.Modulo.{same_number}
use Rattle.flp_circuits.specs.Shape.{Shape}
use Rattle.flp_proof.specs.Proof.{wire_log}
use Rattle.prio3_share.specs.Base.{Base}
use Rattle.prio3_share.specs.declared.usage.Usage.TheVariants.{QueryPoint}
use Rattle.prio3_share.specs.Texts.{drawn_for}
use Rattle.prio3_share.specs.Preparing.{is_root, point_of, is_fair}

module _ {F : Type 0} (b : Base F) (c : Shape F) (kind : ℕ) where
  pub root-false : Residues b.modulus b.number b.residue → (t : F) → power b.ring t (2 ^ wire_log c.calls) ≢ b.ring.unit → is_root b c kind t ≡ false
  root-false residues t ne =
      let apart : b.number (power b.ring t (2 ^ wire_log c.calls)) ≢ b.number b.ring.unit = λ e. ne (same_number residues _ _ e) in
      grind (arith, nat_tests)

  pub root-true : (t : F) → power b.ring t (2 ^ wire_log c.calls) ≡ b.ring.unit → is_root b c kind t ≡ true
  root-true t e = let same : b.number (power b.ring t (2 ^ wire_log c.calls)) ≡ b.number b.ring.unit = ap b.number e in grind (arith, nat_tests)

  pub fair_point : Residues b.modulus b.number b.residue → (verify id : List ℕ) (t : F) → drawn_for b kind verify QueryPoint id 1 ≡ Some (t ∷ []) → power b.ring t (2 ^ wire_log c.calls) ≢ b.ring.unit → is_fair b c kind verify id ≡ true
  unfolding point_of
  fair_point residues verify id t drawn apart = rw (drawn, root-false residues t apart) refl
