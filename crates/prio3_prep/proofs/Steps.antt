-- Lemmas: each step of preparing where its parts are in order.
use Rattle.std.proofs.Common.{◌≡◌, ℕ, suc, ◌+◌, ◌*◌, List, [], ◌∷◌, ◌++◌, length, drop, true, Some, ap, ◌∙◌, refl, arith}
use Rattle.std.specs.Prelude.{nat_eq}
use Rattle.std.proofs.lemmas.Bool.{eq-eqb}
use Rattle.std.proofs.lemmas.List.{length-append, take_at, drop_at}
use Rattle.std.proofs.lemmas.List.FromFn.{length-map-range_with_len}
use Rattle.field_laws.specs.Polynomial.{add_polynomials, eval}
use Rattle.flp_circuits.specs.Shape.{Shape}
use Rattle.flp_proof.specs.Proof.{query_of, wires_at, wire}
use Rattle.vdaf_api.specs.declared.role.Role.{Role}
use Rattle.prio3_share.specs.Base.{Base, BaseLaws}
use Rattle.prio3_share.specs.Texts.{bytes_of, joint_seed}
use Rattle.prio3_share.specs.Sharing.{if_joint, joint_bytes, joint_randomness}
use Rattle.prio3_share.specs.Preparing.{Half, half_of, verifier_bytes, left_part, right_part, point_of, started_at, start, accepts, verifier_of, combine}
use Rattle.prio3_share.proofs.Elements.{length-bytes, elements-bytes}
use Rattle.prio3_prep.proofs.Cuts.{combine-of}

module _ {F : Type 0} (b : Base F) (c : Shape F) (kind : ℕ) where
  -- init, where the length is right, the half reads, and both drawings have their values
  pub start-is : (role : Role) (verify id public input : List ℕ) (h : Half F) (r : List F) (t : F)
      → length public ≡ joint_bytes c 32 → half_of b c kind role input ≡ Some h
      → joint_randomness b c kind (left_part b c kind role id public h) (right_part b c kind role id public h) ≡ Some r
      → point_of b c kind verify id ≡ Some t
      → start b c kind role verify id public input ≡ Some (started_at b c kind role id public h r t)
  unfolding start
  start-is role verify id public input h r t e1 e2 e3 e4 =
      rw (eq-eqb (length public) (joint_bytes c 32) e1, e2, e3, e4) refl

module _ {F : Type 0} {b : Base F} (laws : BaseLaws b) (c : Shape F) (kind : ℕ) where
  -- a prep share's verifier share, read back
  pub verifier-is : (v : List F) (more : List ℕ) → length v ≡ c.arity + 2 → length more ≡ joint_bytes c 16 → verifier_of b c kind (bytes_of b v ++ more) ≡ Some v
  verifier-is v more hv hm =
      let lv : length (bytes_of b v) ≡ verifier_bytes b c kind = length-bytes laws v ∙ ap (λ n. n * b.width) hv in
      let size : nat_eq (length (bytes_of b v ++ more)) (verifier_bytes b c kind + joint_bytes c 16) ≡ true = eq-eqb _ _ (omega (arith, length-append (bytes_of b v) more)) in
      rw (size, take_at (bytes_of b v) more _ lv) (elements-bytes laws (c.arity + 2) v hv)

  verifier-rest : (v : List F) (more : List ℕ) → length v ≡ c.arity + 2 → drop (verifier_bytes b c kind) (bytes_of b v ++ more) ≡ more
  verifier-rest v more hv = drop_at (bytes_of b v) more _ (length-bytes laws v ∙ ap (λ n. n * b.width) hv)

  pub combine-is : (v w : List F) (more other : List ℕ) → length v ≡ c.arity + 2 → length w ≡ c.arity + 2 → length more ≡ joint_bytes c 16 → length other ≡ joint_bytes c 16
      → accepts b c kind (add_polynomials b.ring v w) ≡ true
      → combine b c kind (bytes_of b v ++ more) (bytes_of b w ++ other) ≡ Some (if_joint c (joint_seed kind more other))
  combine-is v w more other hv hw hm ho ok =
      combine-of b c kind (bytes_of b v ++ more) (bytes_of b w ++ other) v w true (verifier-is v more hv hm) (verifier-is w other hw ho) ok
      ∙ ap (λ l. Some (if_joint c (joint_seed kind l (drop (verifier_bytes b c kind) (bytes_of b w ++ other))))) (verifier-rest v more hv)
      ∙ ap (λ l. Some (if_joint c (joint_seed kind more l))) (verifier-rest w other hw)

  pub length-query : (one : F) (x p r : List F) (t : F) → length (query_of b.ring b.half b.root c one x p r t) ≡ c.arity + 2
  unfolding query_of
  length-query one x p r t =
      let ws : List F = wires_at b.ring b.half b.root c x p t in
      let size : length ws ≡ c.arity = length-map-range_with_len (λ j. eval b.ring (wire b.ring b.half b.root c x p j) t) 0 c.arity in
      ap suc (length-append ws (eval b.ring (drop c.arity p) t ∷ [])) ∙ (let e : suc (length ws + 1) ≡ c.arity + 2 = omega arith in e)
