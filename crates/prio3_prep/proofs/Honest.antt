-- Lemmas: an honest fair report is ok, and its content is the truncated encoding.
use Rattle.std.proofs.Common.{◌≡◌, ℕ, List, [], ◌++◌, length, map, take, drop, true, Option, Some, None, sym, ap, ◌∙◌, refl, subst}
use Rattle.std.specs.Str.{bytes_eq}
use Rattle.std.specs.Option.{is_some, option_and_then}
use Rattle.std.proofs.lemmas.Slice.Eq.{bytes_eq-Decides}
use Rattle.std.proofs.lemmas.List.{take_at, drop_at}
use Rattle.field_laws.specs.Polynomial.{add_polynomials}
use Rattle.flp_circuits.specs.Shape.{Shape, ShapeLaws, EncodeLaws, IsValid}
use Rattle.flp_proof.specs.Proof.{proof_of}
use Rattle.flp_proof.proofs.Complete.{complete}
use Rattle.vdaf_api.specs.declared.role.Role.TheVariants.{Leader, Helper}
use Rattle.vdaf_api.specs.declared.answer.Answer.{Answer}
use Rattle.vdaf_api.specs.Functions.{Parts, Functions}
use Rattle.vdaf_api.specs.Vectors.{when, plus, vector, SpaceLaws, numbers_in}
use Rattle.vdaf_api.specs.Verdict.{opened, verdict, numbers_of, ok}
use Rattle.vdaf_api.specs.SumLaws.{vector-plus}
use Rattle.vdaf_api.specs.VerdictLaws.{verdict-ok}
use Rattle.prio3_share.specs.Base.{Base, BaseLaws}
use Rattle.prio3_share.specs.declared.usage.Usage.TheVariants.{JointRandomness, WireSeeds}
use Rattle.prio3_share.specs.Texts.{bytes_of, joint_seed}
use Rattle.prio3_share.specs.Sharing.{has_joint, if_joint, joint_bytes, joint_randomness, sharing, shard, encoding}
use Rattle.prio3_share.specs.Preparing.{Started, finish, own_part, point_of, verifier, started_at, start, out_of, accepts, combine, is_fair}
use Rattle.prio3_share.specs.Functions.{functions_of, space_of}
use Rattle.prio3_share.proofs.Elements.{bind-some, vector-bytes, numbers-add}
use Rattle.prio3_share.proofs.Lengths.{length-drawn_for, length-part, length-if_joint, if_joint-same, if_joint-true, joint-same}
use Rattle.prio3_share.specs.Added.{AddTo}
use Rattle.prio3_share.proofs.Added.{Split, split, lengths}
use Rattle.prio3_prep.specs.States.{Sizes}
use Rattle.prio3_prep.proofs.Inversions.{half-sizes}
use Rattle.prio3_prep.proofs.Deciding.{accepted}
use Rattle.prio3_prep.proofs.Steps.{start-is, combine-is, length-query}

module _ {F : Type 0} (b : Base F) (c : Shape F) (kind : ℕ) where
  -- both sides' states, their message, and the halves that their out shares come from
  pub record BothStart (verify id : List ℕ) (x : List F) (p : Parts) : Type 0 where
    pub x_leader : List F
    pub x_helper : List F
    pub leader : Started
    pub helper : Started
    pub message : List ℕ
    pub leader_starts : start b c kind Leader verify id p.public p.leader ≡ Some leader
    pub helper_starts : start b c kind Helper verify id p.public p.helper ≡ Some helper
    pub combined : combine b c kind leader.share helper.share ≡ Some message
    pub leader_message : leader.message ≡ message
    pub helper_message : helper.message ≡ message
    pub leader_out : leader.out ≡ bytes_of b (c.truncate x_leader)
    pub helper_out : helper.out ≡ bytes_of b (c.truncate x_helper)
    pub sum : add_polynomials b.ring x_leader x_helper ≡ x
    pub leader_len : length x_leader ≡ c.input_len
    pub helper_len : length x_helper ≡ c.input_len

same_bytes : (bytes : List ℕ) (o : Option (List ℕ)) → when (bytes_eq bytes bytes) o ≡ o
same_bytes bytes o = ap (λ t. when t o) ((bytes_eq-Decides bytes bytes).1 refl)

module _ {F : Type 0} {b : Base F} (laws : BaseLaws b) (c : Shape F) (keeps : ShapeLaws b.ring c) (codes : EncodeLaws b.ring c) (kind : ℕ) where
  some_point : (o : Option F) → is_some o ≡ true → (t : F) × (o ≡ Some t)
  some_point (Some t) e = (t, refl)
  some_point None e = absurd (cc)

  pub both_start : (verify id seed ms : List ℕ) (x : List F) (p : Parts) → c.encode ms ≡ Some x → sharing b c kind id x seed ≡ Some p → is_fair b c kind verify id ≡ true → BothStart b c kind verify id x p
  both_start verify id seed ms x p enc shares fair =
      let hx : length x ≡ c.input_len = codes.length-encode ms x enc in
      let s : Split b c kind id seed x p = split laws c keeps kind id seed x p hx shares in
      let a : AddTo b c kind id seed x p = s.adds in
      let point = some_point (point_of b c kind verify id) fair in
      let t : F = point.0 in
      let left : List ℕ = own_part b c kind Leader id a.leader in
      let right : List ℕ = own_part b c kind Helper id a.helper in
      let left_len : length left ≡ 16 = length-part b kind Leader id a.leader.blind a.leader.x in
      let right_len : length right ≡ 16 = length-part b kind Helper id a.helper.blind a.helper.x in
      let public_len : length p.public ≡ joint_bytes c 32 = (lengths laws c keeps kind id seed x p hx shares).public in
      let right_is : has_joint c ≡ true → drop 16 p.public ≡ right = λ j. ap (drop 16) (a.public ∙ if_joint-true c (left ++ right) j) ∙ drop_at left right 16 left_len in
      let left_is : has_joint c ≡ true → take 16 p.public ≡ left = λ j. ap (take 16) (a.public ∙ if_joint-true c (left ++ right) j) ∙ take_at left right 16 left_len in
      let joint_l : joint_randomness b c kind left (drop 16 p.public) ≡ Some s.r = joint-same b c kind left right left (drop 16 p.public) (λ j. (refl, right_is j)) ∙ s.joint in
      let joint_h : joint_randomness b c kind (take 16 p.public) right ≡ Some s.r = joint-same b c kind left right (take 16 p.public) right (λ j. (left_is j, refl)) ∙ s.joint in
      let sizes_l : Sizes c a.leader = half-sizes b c kind laws Leader p.leader a.leader a.reads_leader in
      let sizes_h : Sizes c a.helper = half-sizes b c kind laws Helper p.helper a.helper a.reads_helper in
      let hr : length s.r ≡ c.joint_len = length-drawn_for b kind _ JointRandomness [] c.joint_len s.r s.joint in
      let hs : length a.wire_seeds ≡ c.arity = length-drawn_for b kind _ WireSeeds [] c.arity a.wire_seeds a.draws in
      let v : List F = verifier b c kind a.leader s.r t in
      let w : List F = verifier b c kind a.helper s.r t in
      let shared : add_polynomials b.ring a.leader.proof a.helper.proof ≡ proof_of b.ring b.half b.root c (add_polynomials b.ring a.leader.x a.helper.x) a.wire_seeds =
      a.proofs ∙ ap (λ y. proof_of b.ring b.half b.root c y a.wire_seeds) (sym a.inputs) in
      let valid : IsValid b.ring c (add_polynomials b.ring a.leader.x a.helper.x) s.r = subst (λ y. IsValid b.ring c y s.r) (sym a.inputs) (codes.encode-valid ms x s.r enc hr) in
      let decided : accepts b c kind (add_polynomials b.ring v w) ≡ true =
      accepted b c kind (add_polynomials b.ring v w) (complete laws.laws b.half b.root laws.halves laws.roots c keeps a.leader.x a.helper.x a.leader.proof a.helper.proof a.wire_seeds s.r t sizes_l.x sizes_h.x hr hs shared valid) in
      let combined : combine b c kind (bytes_of b v ++ if_joint c left) (bytes_of b w ++ if_joint c right) ≡ Some (if_joint c (joint_seed kind (if_joint c left) (if_joint c right))) =
      combine-is laws c kind v w (if_joint c left) (if_joint c right) (length-query laws c kind b.half a.leader.x a.leader.proof s.r t) (length-query laws c kind b.half a.helper.x a.helper.proof s.r t)
      (length-if_joint c left 16 left_len) (length-if_joint c right 16 right_len) decided in
      record {
        x_leader = a.leader.x;
        x_helper = a.helper.x;
        leader = started_at b c kind Leader id p.public a.leader s.r t;
        helper = started_at b c kind Helper id p.public a.helper s.r t;
        message = if_joint c (joint_seed kind left right);
        leader_starts = start-is b c kind Leader verify id p.public p.leader a.leader s.r t public_len a.reads_leader joint_l point.1;
        helper_starts = start-is b c kind Helper verify id p.public p.helper a.helper s.r t public_len a.reads_helper joint_h point.1;
        combined = combined ∙ ap Some (if_joint-same c _ _ (λ j. ap (λ l. joint_seed kind l (if_joint c right)) (if_joint-true c left j) ∙ ap (joint_seed kind left) (if_joint-true c right j)));
        leader_message = if_joint-same c _ _ (λ j. ap (joint_seed kind left) (right_is j));
        helper_message = if_joint-same c _ _ (λ j. ap (λ l. joint_seed kind l right) (left_is j));
        leader_out = refl;
        helper_out = refl;
        sum = a.inputs;
        leader_len = sizes_l.x;
        helper_len = sizes_h.x;
      }

  -- the law on bytes
  pub honest : (answer : List ℕ → Answer) → (verify id seed ms : List ℕ) (p : Parts) → SpaceLaws (space_of b c) → shard b c kind id ms seed ≡ Some p → is_fair b c kind verify id ≡ true
      → numbers_of (functions_of b c kind answer) (verdict (functions_of b c kind answer) (opened verify id p)) ≡ encoding b c kind ms
  unfolding shard
  honest answer verify id seed ms p space shares fair =
      let f : Functions = functions_of b c kind answer in
      let one = bind-some (c.encode ms) (λ x. sharing b c kind id x seed) p shares in
      let x : List F = one.0 in
      let h : BothStart b c kind verify id x p = both_start verify id seed ms x p one.1 one.2 fair in
      let lo : List ℕ = bytes_of b (c.truncate h.x_leader) in
      let ho : List ℕ = bytes_of b (c.truncate h.x_helper) in
      let out_l : out_of b c kind Leader verify id p.public p.leader h.message ≡ Some lo =
      ap (option_and_then (λ s. finish s h.message)) h.leader_starts ∙ ap (λ k. when (bytes_eq h.message k) (Some h.leader.out)) h.leader_message ∙ same_bytes h.message (Some h.leader.out) ∙ ap Some h.leader_out in
      let out_h : out_of b c kind Helper verify id p.public p.helper h.message ≡ Some ho =
      ap (option_and_then (λ s. finish s h.message)) h.helper_starts ∙ ap (λ k. when (bytes_eq h.message k) (Some h.helper.out)) h.helper_message ∙ same_bytes h.message (Some h.helper.out) ∙ ap Some h.helper_out in
      let is_ok : verdict f (opened verify id p) ≡ ok lo ho =
      verdict-ok f verify id p h.leader.share h.helper.share h.message lo ho (ap (option_and_then (λ s. Some s.share)) h.leader_starts) (ap (option_and_then (λ s. Some s.share)) h.helper_starts) h.combined out_l out_h in
      let tl : length (c.truncate h.x_leader) ≡ c.out_len = codes.length-truncate h.x_leader h.leader_len in
      let th : length (c.truncate h.x_helper) ≡ c.out_len = codes.length-truncate h.x_helper h.helper_len in
      let sum : vector (space_of b c) (plus (space_of b c) lo ho) ≡ Some (map b.number (c.truncate x)) =
      vector-plus space lo ho (map b.number (c.truncate h.x_leader)) (map b.number (c.truncate h.x_helper)) (vector-bytes laws c.out_len (c.truncate h.x_leader) tl) (vector-bytes laws c.out_len (c.truncate h.x_helper) th)
      ∙ ap Some (numbers-add laws (c.truncate h.x_leader) (c.truncate h.x_helper) (tl ∙ sym th) ∙ ap (map b.number) (sym (codes.truncate-add h.x_leader h.x_helper h.leader_len h.helper_len) ∙ ap c.truncate h.sum)) in
      ap (numbers_of f) is_ok ∙ ap (λ o. Some (numbers_in o)) sum ∙ sym (ap (option_and_then (λ x. Some (map b.number (c.truncate x)))) one.1)
