-- Lemmas: what a report's shares are together.
use Rattle.std.proofs.Common.{◌≡◌, ℕ, List, [], ◌++◌, length, true, Some, sym, ap, ◌∙◌, lit<, arith}
use Rattle.std.proofs.Math.ListN.{length-append}
use Rattle.flp_circuits.specs.Shape.{Shape, ShapeLaws, EncodeLaws}
use Rattle.flp_proof.specs.Proof.{proof_len}
use Rattle.vdaf_api.specs.declared.role.Role.TheVariants.{Leader, Helper}
use Rattle.vdaf_api.specs.Functions.{Parts}
use Rattle.prio3_share.specs.Base.{Base, BaseLaws}
use Rattle.prio3_share.specs.Texts.{drawn_for, part, input_key, proof_key, wire_key, leader_blind, helper_blind}
use Rattle.prio3_share.specs.Sharing.{has_joint, if_joint, joint_randomness, differences, leader_part, helper_part, whole_proof, shares_of, sharing, shard}
use Rattle.prio3_share.specs.Preparing.{Half, half_of, own_part}
use Rattle.prio3_share.specs.Added.{AddTo, HaveLengths}
use Rattle.prio3_share.specs.declared.usage.Usage.TheVariants.{HelperInput, WireSeeds, HelperProof}
use Rattle.prio3_share.proofs.Elements.{bind-some, differences-add, length-differences}
use Rattle.prio3_share.proofs.Lengths.{length-drawn_for, length-key, length-part, length-if_joint, if_joint-same, if_joint-true, joint-same, length-proof}
use Rattle.prio3_share.proofs.ReadHalves.{leader_half-is, helper_half-is, leader-size, helper-size}

-- the shares are made of drawings that have values
record Drew {F : Type 0} (b : Base F) (c : Shape F) (kind : ℕ) (id seed : List ℕ) (x : List F) (parts : Parts) : Type 0 where
  pub x_helper : List F
  pub r : List F
  pub wire_seeds : List F
  pub proof_helper : List F
  pub input : drawn_for b kind (input_key kind seed) HelperInput [] c.input_len ≡ Some x_helper
  pub joint : joint_randomness b c kind (leader_part b c kind id seed x x_helper) (helper_part b c kind id seed x_helper) ≡ Some r
  pub wires : drawn_for b kind (wire_key kind seed) WireSeeds [] c.arity ≡ Some wire_seeds
  pub proof : drawn_for b kind (proof_key kind seed) HelperProof [] (proof_len c) ≡ Some proof_helper
  pub is : parts ≡ shares_of b c kind id seed x x_helper wire_seeds proof_helper

drew : {F : Type 0} (b : Base F) (c : Shape F) (kind : ℕ) (id seed : List ℕ) (x : List F) (parts : Parts) → sharing b c kind id x seed ≡ Some parts → Drew b c kind id seed x parts
unfolding sharing
drew b c kind id seed x parts e =
    let one = bind-some (drawn_for b kind (input_key kind seed) HelperInput [] c.input_len) _ parts e in
    let two = bind-some (joint_randomness b c kind (leader_part b c kind id seed x one.0) (helper_part b c kind id seed one.0)) _ parts one.2 in
    let three = bind-some (drawn_for b kind (wire_key kind seed) WireSeeds [] c.arity) _ parts two.2 in
    let four = bind-some (drawn_for b kind (proof_key kind seed) HelperProof [] (proof_len c)) _ parts three.2 in
    let some : Some (shares_of b c kind id seed x one.0 three.0 four.0) ≡ Some parts = four.2 in
    record { x_helper = one.0; r = two.0; wire_seeds = three.0; proof_helper = four.0; input = one.1; joint = two.1; wires = three.1; proof = four.1; is = cc }

-- the shares are halves, whose parts make the joint randomness
pub record Split {F : Type 0} (b : Base F) (c : Shape F) (kind : ℕ) (id seed : List ℕ) (x : List F) (parts : Parts) : Type 0 where
  pub adds : AddTo b c kind id seed x parts
  pub r : List F
  pub joint : joint_randomness b c kind (own_part b c kind Leader id adds.leader) (own_part b c kind Helper id adds.helper) ≡ Some r

module _ {F : Type 0} {b : Base F} (laws : BaseLaws b) (c : Shape F) (keeps : ShapeLaws b.ring c) (kind : ℕ) where
  pub split : (id seed : List ℕ) (x : List F) (parts : Parts) → length x ≡ c.input_len → sharing b c kind id x seed ≡ Some parts → Split b c kind id seed x parts
  split id seed x parts hx e =
      let d : Drew b c kind id seed x parts = drew b c kind id seed x parts e in
      let whole : List F = whole_proof b c kind x d.wire_seeds in
      let hxh : length x ≡ length d.x_helper = hx ∙ sym (length-drawn_for b kind _ HelperInput [] c.input_len d.x_helper d.input) in
      let hw : length whole ≡ proof_len c = length-proof laws c kind keeps x d.wire_seeds (length-drawn_for b kind _ WireSeeds [] c.arity d.wire_seeds d.wires) in
      let hph : length whole ≡ length d.proof_helper = hw ∙ sym (length-drawn_for b kind _ HelperProof [] (proof_len c) d.proof_helper d.proof) in
      let lead : Half F = record { x = differences b.ring x d.x_helper; proof = differences b.ring whole d.proof_helper; blind = if_joint c (leader_blind kind seed) } in
      let help : Half F = record { x = d.x_helper; proof = d.proof_helper; blind = if_joint c (helper_blind kind seed) } in
      let left : has_joint c ≡ true → own_part b c kind Leader id lead ≡ leader_part b c kind id seed x d.x_helper = λ j. ap (λ k. part b kind Leader id k lead.x) (if_joint-true c (leader_blind kind seed) j) in
      let right : has_joint c ≡ true → own_part b c kind Helper id help ≡ helper_part b c kind id seed d.x_helper = λ j. ap (λ k. part b kind Helper id k help.x) (if_joint-true c (helper_blind kind seed) j) in
      record {
        adds = record {
          leader = lead;
          helper = help;
          wire_seeds = d.wire_seeds;
          reads_leader = ap (λ (p : Parts). half_of b c kind Leader p.leader) d.is
              ∙ leader_half-is laws c kind lead.x lead.proof lead.blind (length-differences laws x d.x_helper hxh ∙ hx) (length-differences laws whole d.proof_helper hph ∙ hw) (length-if_joint c (leader_blind kind seed) 16 (length-key kind seed 3 (lit< tt)));
          reads_helper = ap (λ (p : Parts). half_of b c kind Helper p.helper) d.is
              ∙ helper_half-is laws c kind (input_key kind seed) (proof_key kind seed) help.blind help.x help.proof (length-key kind seed 0 (lit< tt)) (length-key kind seed 1 (lit< tt)) (length-if_joint c (helper_blind kind seed) 16 (length-key kind seed 4 (lit< tt))) d.input d.proof;
          draws = d.wires;
          inputs = differences-add laws x d.x_helper hxh;
          proofs = differences-add laws whole d.proof_helper hph;
          public = ap (λ (p : Parts). p.public) d.is
              ∙ if_joint-same c (leader_part b c kind id seed x d.x_helper ++ helper_part b c kind id seed d.x_helper) (own_part b c kind Leader id lead ++ own_part b c kind Helper id help)
              (λ j. ap (λ l. l ++ helper_part b c kind id seed d.x_helper) (sym (left j)) ∙ ap (λ l. own_part b c kind Leader id lead ++ l) (sym (right j)));
        };
        r = d.r;
        joint = joint-same b c kind (leader_part b c kind id seed x d.x_helper) (helper_part b c kind id seed d.x_helper) (own_part b c kind Leader id lead) (own_part b c kind Helper id help) (λ j. (left j, right j)) ∙ d.joint;
      }

  pub adds : (id seed : List ℕ) (x : List F) (parts : Parts) → length x ≡ c.input_len → sharing b c kind id x seed ≡ Some parts → AddTo b c kind id seed x parts
  adds id seed x parts hx e = (split id seed x parts hx e).adds

  pub adds-encoded : EncodeLaws b.ring c → (id seed ms : List ℕ) (parts : Parts) → shard b c kind id ms seed ≡ Some parts
      → (x : List F) × (c.encode ms ≡ Some x) × AddTo b c kind id seed x parts
  unfolding shard
  adds-encoded codes id seed ms parts e = let one = bind-some (c.encode ms) _ parts e in (one.0, one.1, adds id seed one.0 parts (codes.length-encode ms one.0 one.1) one.2)

  pub lengths : (id seed : List ℕ) (x : List F) (parts : Parts) → length x ≡ c.input_len → sharing b c kind id x seed ≡ Some parts → HaveLengths b c kind parts
  lengths id seed x parts hx e =
      let a : AddTo b c kind id seed x parts = adds id seed x parts hx e in
      let left : List ℕ = own_part b c kind Leader id a.leader in
      let right : List ℕ = own_part b c kind Helper id a.helper in
      record {
        public = ap length a.public ∙ length-if_joint c (left ++ right) 32 (omega (arith, length-append left right, length-part b kind Leader id a.leader.blind a.leader.x, length-part b kind Helper id a.helper.blind a.helper.x));
        leader = leader-size b c kind parts.leader a.leader a.reads_leader;
        helper = helper-size b c kind parts.helper a.helper a.reads_helper;
      }
