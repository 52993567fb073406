-- Lemmas: what the halves of a report read as, and how long the shares are that read as halves.
use Rattle.std.proofs.Common.{◌≡◌, ℕ, ◌+◌, ◌*◌, List, [], ◌++◌, length, true, Some, ap, ◌∙◌, refl, arith}
use Rattle.std.specs.Prelude.{nat_eq}
use Rattle.std.proofs.lemmas.Bool.{eq-eqb, eqb-true}
use Rattle.std.proofs.lemmas.List.{length-append, take_at, drop_at}
use Rattle.flp_circuits.specs.Shape.{Shape}
use Rattle.flp_proof.specs.Proof.{proof_len}
use Rattle.vdaf_api.specs.declared.role.Role.TheVariants.{Leader, Helper}
use Rattle.vdaf_api.specs.VectorLaws.{when-some}
use Rattle.prio3_share.specs.Base.{Base, BaseLaws}
use Rattle.prio3_share.specs.declared.usage.Usage.TheVariants.{HelperInput, HelperProof}
use Rattle.prio3_share.specs.Texts.{drawn_for, bytes_of}
use Rattle.prio3_share.specs.Sharing.{joint_bytes}
use Rattle.prio3_share.specs.Preparing.{Half, half_of, x_bytes, proof_bytes}
use Rattle.prio3_share.proofs.Elements.{length-bytes, elements-bytes}

module _ {F : Type 0} {b : Base F} (laws : BaseLaws b) (c : Shape F) (kind : ℕ) where
  pub leader_half-is : (x proof : List F) (blind : List ℕ) → length x ≡ c.input_len → length proof ≡ proof_len c → length blind ≡ joint_bytes c 16
      → half_of b c kind Leader (bytes_of b x ++ (bytes_of b proof ++ blind)) ≡ Some (record { x = x; proof = proof; blind = blind })
  unfolding half_of
  leader_half-is x proof blind hx hp hb =
      let xs : List ℕ = bytes_of b x in
      let ps : List ℕ = bytes_of b proof in
      let lx : length xs ≡ x_bytes b c kind = length-bytes laws x ∙ ap (λ n. n * b.width) hx in
      let lp : length ps ≡ proof_bytes b c kind = length-bytes laws proof ∙ ap (λ n. n * b.width) hp in
      let size : nat_eq (length (xs ++ (ps ++ blind))) (x_bytes b c kind + (proof_bytes b c kind + joint_bytes c 16)) ≡ true = eq-eqb _ _ (omega (arith, length-append xs (ps ++ blind), length-append ps blind)) in
      rw (size, take_at xs (ps ++ blind) _ lx, drop_at xs (ps ++ blind) _ lx, take_at ps blind _ lp, drop_at ps blind _ lp, elements-bytes laws c.input_len x hx, elements-bytes laws (proof_len c) proof hp) refl

  pub helper_half-is : (k1 k2 blind : List ℕ) (x proof : List F) → length k1 ≡ 16 → length k2 ≡ 16 → length blind ≡ joint_bytes c 16
      → drawn_for b kind k1 HelperInput [] c.input_len ≡ Some x → drawn_for b kind k2 HelperProof [] (proof_len c) ≡ Some proof
      → half_of b c kind Helper (k1 ++ (k2 ++ blind)) ≡ Some (record { x = x; proof = proof; blind = blind })
  unfolding half_of
  helper_half-is k1 k2 blind x proof h1 h2 hb e1 e2 =
      let size : nat_eq (length (k1 ++ (k2 ++ blind))) (32 + joint_bytes c 16) ≡ true = eq-eqb _ _ (omega (arith, length-append k1 (k2 ++ blind), length-append k2 blind)) in
      rw (size, take_at k1 (k2 ++ blind) 16 h1, drop_at k1 (k2 ++ blind) 16 h1, take_at k2 blind 16 h2, drop_at k2 blind 16 h2, e1, e2) refl

module _ {F : Type 0} (b : Base F) (c : Shape F) (kind : ℕ) where
  pub leader-size : (input : List ℕ) (h : Half F) → half_of b c kind Leader input ≡ Some h → length input ≡ x_bytes b c kind + (proof_bytes b c kind + joint_bytes c 16)
  unfolding half_of
  leader-size input h e = eqb-true _ _ (when-some _ _ h e).0

  pub helper-size : (input : List ℕ) (h : Half F) → half_of b c kind Helper input ≡ Some h → length input ≡ 32 + joint_bytes c 16
  unfolding half_of
  helper-size input h e = eqb-true _ _ (when-some _ _ h e).0
