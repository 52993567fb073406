-- Lemmas: what the halves of an accepted report are together.
use Rattle.std.proofs.Common.{◌≡◌, ℕ, List, [], length, get_or, Bool, true, false, Some, sym, ap, ◌∙◌, refl, subst}
use Rattle.std.specs.Str.{bytes_eq}
use Rattle.std.specs.Option.{option_and_then}
use Rattle.std.proofs.lemmas.Slice.Eq.{bytes_eq-Decides}
use Rattle.std.proofs.lemmas.Option.{same_Some}
use Rattle.field_laws.specs.Polynomial.{add_polynomials}
use Rattle.flp_circuits.specs.Shape.{Shape, ShapeLaws}
use Rattle.flp_proof.specs.Proof.{Accepts, query_of}
use Rattle.flp_proof.proofs.Complete.{query-add, query_whole}
use Rattle.vdaf_api.specs.declared.role.Role.{Role}
use Rattle.vdaf_api.specs.declared.role.Role.TheVariants.{Leader, Helper}
use Rattle.vdaf_api.specs.declared.answer.Answer.{Answer}
use Rattle.vdaf_api.specs.Functions.{Functions, Parts}
use Rattle.vdaf_api.specs.Verdict.{opened, ok, verdict}
use Rattle.vdaf_api.specs.VectorLaws.{when-some}
use Rattle.vdaf_api.specs.VerdictLaws.{IsOk, ok-is, ok-combined}
use Rattle.prio3_share.specs.Base.{Base, BaseLaws}
use Rattle.prio3_share.specs.declared.usage.Usage.TheVariants.{JointRandomness}
use Rattle.prio3_share.specs.Texts.{drawn_for, joint_seed}
use Rattle.prio3_share.specs.Sharing.{has_joint, if_joint, joint_randomness}
use Rattle.prio3_share.specs.Preparing.{Started, finish, own_part, left_part, right_part, verifier, start, accepts, verifier_of, combine}
use Rattle.prio3_share.specs.Functions.{functions_of}
use Rattle.prio3_share.proofs.Elements.{bind-some}
use Rattle.prio3_share.proofs.Lengths.{length-drawn_for, length-part, length-if_joint, if_joint-true, joint-none}
use Rattle.prio3_prep.specs.States.{Sizes}
use Rattle.prio3_prep.specs.Decided.{IsDecided}
use Rattle.prio3_prep.proofs.Inversions.{Began, began, half-sizes}
use Rattle.prio3_prep.proofs.Deciding.{accepts-back}
use Rattle.prio3_prep.proofs.Steps.{verifier-is, length-query}

-- the message that a state waits for, and its out share
finished : (s : Started) (message out : List ℕ) → finish s message ≡ Some out → (message ≡ s.message) × (s.out ≡ out)
finished s message out e =
    let k = when-some (bytes_eq message s.message) (Some s.out) out e in
    ((bytes_eq-Decides message s.message).0 k.0, same_Some s.out out k.1)

module _ {F : Type 0} (b : Base F) (c : Shape F) (kind : ℕ) where
  -- joint seeds that agree have one joint randomness
  joint-agrees : (left right mine other : List ℕ) (r s : List F) → if_joint c (joint_seed kind left right) ≡ if_joint c (joint_seed kind mine other)
      → joint_randomness b c kind left right ≡ Some r → joint_randomness b c kind mine other ≡ Some s → r ≡ s
  joint-agrees left right mine other r s e hr hs = go (has_joint c) refl
    where
      go : (j : Bool) → has_joint c ≡ j → r ≡ s
      go true j =
          let seeds : joint_seed kind left right ≡ joint_seed kind mine other = sym (if_joint-true c (joint_seed kind left right) j) ∙ e ∙ if_joint-true c (joint_seed kind mine other) j in
          same_Some r s (sym hr ∙ ap (λ k. drawn_for b kind k JointRandomness [] c.joint_len) seeds ∙ hs)
      go false j = same_Some r s (sym hr ∙ joint-none b c kind left right j ∙ sym (joint-none b c kind mine other j) ∙ hs)

  combine-accepts : (leader helper message : List ℕ) (v w : List F) → combine b c kind leader helper ≡ Some message → verifier_of b c kind leader ≡ Some v → verifier_of b c kind helper ≡ Some w
      → accepts b c kind (add_polynomials b.ring v w) ≡ true
  unfolding combine
  combine-accepts leader helper message v w e ev ew =
      let one = bind-some (verifier_of b c kind leader) _ message e in
      let two = bind-some (verifier_of b c kind helper) _ message one.2 in
      let three = when-some (accepts b c kind (add_polynomials b.ring one.0 two.0)) _ message two.2 in
      let sv : v ≡ one.0 = same_Some v one.0 (sym ev ∙ one.1) in
      let sw : w ≡ two.0 = same_Some w two.0 (sym ew ∙ two.1) in
      ap (λ l. accepts b c kind (add_polynomials b.ring l w)) sv ∙ ap (λ l. accepts b c kind (add_polynomials b.ring one.0 l)) sw ∙ three.0

module _ {F : Type 0} {b : Base F} (laws : BaseLaws b) (c : Shape F) (keeps : ShapeLaws b.ring c) (kind : ℕ) where
  verifier-of : (role : Role) (verify id public input : List ℕ) (s : Started) (g : Began b c kind role verify id public input s) → verifier_of b c kind s.share ≡ Some (verifier b c kind g.h g.r g.t)
  verifier-of role verify id public input s g =
      let own : List ℕ = own_part b c kind role id g.h in
      ap (λ (k : Started). verifier_of b c kind k.share) g.is
      ∙ verifier-is laws c kind (verifier b c kind g.h g.r g.t) (if_joint c own) (length-query laws c kind b.half g.h.x g.h.proof g.r g.t)
      (length-if_joint c own 16 (length-part b kind role id g.h.blind g.h.x))

  pub decided : (answer : List ℕ → Answer) (verify id : List ℕ) (p : Parts) (lo ho : List ℕ) → verdict (functions_of b c kind answer) (opened verify id p) ≡ ok lo ho → IsDecided b c kind verify id p lo ho
  decided answer verify id p lo ho e =
      let f : Functions = functions_of b c kind answer in
      let k : IsOk f (opened verify id p) lo ho = ok-is f (opened verify id p) lo ho e in
      let one = bind-some (start b c kind Leader verify id p.public p.leader) (λ s. finish s k.message) lo k.leader in
      let two = bind-some (start b c kind Helper verify id p.public p.helper) (λ s. finish s k.message) ho k.helper in
      let left = finished one.0 k.message lo one.2 in
      let right = finished two.0 k.message ho two.2 in
      let g : Began b c kind Leader verify id p.public p.leader one.0 = began b c kind Leader verify id p.public p.leader one.0 one.1 in
      let h : Began b c kind Helper verify id p.public p.helper two.0 = began b c kind Helper verify id p.public p.helper two.0 two.1 in
      let same_point : h.t ≡ g.t = same_Some h.t g.t (sym h.point ∙ g.point) in
      let messages = sym (ap (λ (s : Started). s.message) h.is) ∙ sym right.0 ∙ left.0 ∙ ap (λ (s : Started). s.message) g.is in
      let same_joint : h.r ≡ g.r = joint-agrees b c kind (left_part b c kind Helper id p.public h.h) (right_part b c kind Helper id p.public h.h)
      (left_part b c kind Leader id p.public g.h) (right_part b c kind Leader id p.public g.h) h.r g.r messages h.joint g.joint in
      let combined : combine b c kind one.0.share two.0.share ≡ Some k.message =
      ok-combined f verify id p one.0.share two.0.share k.message (ap (option_and_then (λ s. Some s.share)) one.1) (ap (option_and_then (λ s. Some s.share)) two.1) k.item in
      let yes : accepts b c kind (add_polynomials b.ring (verifier b c kind g.h g.r g.t) (verifier b c kind h.h g.r g.t)) ≡ true =
      ap (λ r. accepts b c kind (add_polynomials b.ring (verifier b c kind g.h g.r g.t) (verifier b c kind h.h r g.t))) (sym same_joint)
      ∙ ap (λ t. accepts b c kind (add_polynomials b.ring (verifier b c kind g.h g.r g.t) (verifier b c kind h.h h.r t))) (sym same_point)
      ∙ combine-accepts b c kind one.0.share two.0.share k.message (verifier b c kind g.h g.r g.t) (verifier b c kind h.h h.r h.t) combined
      (verifier-of Leader verify id p.public p.leader one.0 g) (verifier-of Helper verify id p.public p.helper two.0 h) in
      let sizes_l : Sizes c g.h = half-sizes b c kind laws Leader p.leader g.h g.half in
      let sizes_h : Sizes c h.h = half-sizes b c kind laws Helper p.helper h.h h.half in
      let size_r : length g.r ≡ c.joint_len = length-drawn_for b kind _ JointRandomness [] c.joint_len g.r g.joint in
      let x : List F = add_polynomials b.ring g.h.x h.h.x in
      let proof : List F = add_polynomials b.ring g.h.proof h.h.proof in
      let whole : query_of b.ring b.half b.root c b.ring.unit x proof g.r g.t ≡ add_polynomials b.ring (verifier b c kind g.h g.r g.t) (verifier b c kind h.h g.r g.t) =
      ap (λ o. query_of b.ring b.half b.root c o x proof g.r g.t) (sym laws.halves)
      ∙ query-add laws.laws b.half b.root laws.halves laws.roots c keeps b.half b.half g.h.x h.h.x g.h.proof h.h.proof g.r g.t sizes_l.x sizes_h.x size_r in
      let accepted : Accepts b.ring c (query_of b.ring b.half b.root c b.ring.unit x proof g.r g.t) = subst (Accepts b.ring c) (sym whole) (accepts-back b c kind laws.residues _ yes) in
      record {
        leader = g.h;
        helper = h.h;
        joint = g.r;
        point = g.t;
        reads_leader = g.half;
        reads_helper = h.half;
        draws = g.joint;
        draws_alike = h.joint ∙ ap Some same_joint;
        draws_point = g.point;
        accepted = accepted;
        valid = λ seeds size is.
            ap (λ v. get_or v 0 b.ring.nought) (sym (query_whole laws.laws b.half b.root laws.halves laws.roots c keeps x seeds g.r b.ring.unit g.t size))
            ∙ (subst (λ π. Accepts b.ring c (query_of b.ring b.half b.root c b.ring.unit x π g.r g.t)) is accepted).0;
        leader_out_is = sym left.1 ∙ ap (λ (s : Started). s.out) g.is;
        helper_out_is = sym right.1 ∙ ap (λ (s : Started). s.out) h.is;
      }
