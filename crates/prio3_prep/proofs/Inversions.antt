-- Lemmas: what a half, a start, a verifier share and a combination are made of, where they have a value.
use Rattle.std.proofs.Common.{◌≡◌, ℕ, ◌+◌, List, [], length, take, drop, length-drop, Some, subst, arith}
use Rattle.std.specs.Prelude.{true, nat_eq}
use Rattle.std.proofs.lemmas.Bool.{eqb-true}
use Rattle.std.proofs.lemmas.Option.{same_Some}
use Rattle.flp_circuits.specs.Shape.{Shape}
use Rattle.flp_proof.specs.Proof.{proof_len}
use Rattle.aes_cmac_prg.proofs.Drawing.{length-drawn}
use Rattle.vdaf_api.specs.declared.role.Role.{Role}
use Rattle.vdaf_api.specs.declared.role.Role.TheVariants.{Leader, Helper}
use Rattle.vdaf_api.specs.VectorLaws.{when-some}
use Rattle.prio3_share.specs.Base.{Base, BaseLaws}
use Rattle.prio3_share.specs.declared.usage.Usage.TheVariants.{HelperInput, HelperProof}
use Rattle.prio3_share.specs.Texts.{drawn_for}
use Rattle.prio3_share.specs.Sharing.{joint_bytes, joint_randomness}
use Rattle.prio3_share.specs.Preparing.{Half, Started, elements_of, half_of, x_bytes, proof_bytes, verifier_bytes, left_part, right_part, point_of, started_at, start, verifier_of}
use Rattle.prio3_prep.specs.States.{Sizes}
use Rattle.prio3_share.proofs.Elements.{bind-some, length-elements}

rest_len : (m n k : ℕ) (input : List ℕ) → length input ≡ m + (n + k) → length (drop n (drop m input)) ≡ k
rest_len m n k input e = omega (arith, length-drop n (drop m input), length-drop m input)

module _ {F : Type 0} (b : Base F) (c : Shape F) (kind : ℕ) where
  -- what a start is
  pub record Began (role : Role) (verify id public input : List ℕ) (s : Started) : Type 0 where
    pub h : Half F
    pub r : List F
    pub t : F
    pub long : nat_eq (length public) (joint_bytes c 32) ≡ true
    pub half : half_of b c kind role input ≡ Some h
    pub joint : joint_randomness b c kind (left_part b c kind role id public h) (right_part b c kind role id public h) ≡ Some r
    pub point : point_of b c kind verify id ≡ Some t
    pub is : s ≡ started_at b c kind role id public h r t

  pub began : (role : Role) (verify id public input : List ℕ) (s : Started) → start b c kind role verify id public input ≡ Some s → Began role verify id public input s
  unfolding start
  began role verify id public input s e =
      let a = when-some (nat_eq (length public) (joint_bytes c 32)) _ s e in
      let one = bind-some (half_of b c kind role input) _ s a.1 in
      let two = bind-some (joint_randomness b c kind (left_part b c kind role id public one.0) (right_part b c kind role id public one.0)) _ s one.2 in
      let three = bind-some (point_of b c kind verify id) _ s two.2 in
      let some : Some (started_at b c kind role id public one.0 two.0 three.0) ≡ Some s = three.2 in
      record { h = one.0; r = two.0; t = three.0; long = a.0; half = one.1; joint = two.1; point = three.1; is = cc }

  pub half-sizes : BaseLaws b → (role : Role) (input : List ℕ) (h : Half F) → half_of b c kind role input ≡ Some h → Sizes c h
  unfolding half_of
  half-sizes laws Leader input h e =
      let m : ℕ = x_bytes b c kind in
      let n : ℕ = proof_bytes b c kind in
      let a = when-some (nat_eq (length input) (m + (n + joint_bytes c 16))) _ h e in
      let one = bind-some (elements_of b c.input_len (take m input)) _ h a.1 in
      let two = bind-some (elements_of b (proof_len c) (take n (drop m input))) _ h one.2 in
      subst (Sizes c) (same_Some {A = Half F} (record { x = one.0; proof = two.0; blind = drop n (drop m input) }) h two.2) (record {
        x = length-elements laws c.input_len (take m input) one.0 one.1;
        proof = length-elements laws (proof_len c) (take n (drop m input)) two.0 two.1;
        blind = rest_len m n (joint_bytes c 16) input (eqb-true _ _ a.0);
      })
  half-sizes laws Helper input h e =
      let a = when-some (nat_eq (length input) (32 + joint_bytes c 16)) _ h e in
      let one = bind-some (drawn_for b kind (take 16 input) HelperInput [] c.input_len) _ h a.1 in
      let two = bind-some (drawn_for b kind (take 16 (drop 16 input)) HelperProof [] (proof_len c)) _ h one.2 in
      let n : length input ≡ 32 + joint_bytes c 16 = eqb-true _ _ a.0 in
      subst (Sizes c) (same_Some {A = Half F} (record { x = one.0; proof = two.0; blind = drop 16 (drop 16 input) }) h two.2) (record {
        x = length-drawn b.residue b.modulus b.width _ _ c.input_len one.0 one.1;
        proof = length-drawn b.residue b.modulus b.width _ _ (proof_len c) two.0 two.1;
        blind = rest_len 16 16 (joint_bytes c 16) input (omega arith);
      })

  pub verifier-len : BaseLaws b → (share : List ℕ) (v : List F) → verifier_of b c kind share ≡ Some v → length v ≡ c.arity + 2
  verifier-len laws share v e =
      let k = when-some (nat_eq (length share) (verifier_bytes b c kind + joint_bytes c 16)) (elements_of b (c.arity + 2) (take (verifier_bytes b c kind) share)) v e in
      length-elements laws (c.arity + 2) (take (verifier_bytes b c kind) share) v k.1
