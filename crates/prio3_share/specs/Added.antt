-- What a report's shares are together.
use Rattle.std.specs.Prelude.{◌≡◌, ℕ, ◌+◌, List, [], ◌++◌, length, Some}
use Rattle.field_laws.specs.Polynomial.{add_polynomials}
use Rattle.flp_circuits.specs.Shape.{Shape}
use Rattle.vdaf_api.specs.declared.role.Role.TheVariants.{Leader, Helper}
use Rattle.vdaf_api.specs.Functions.{Parts}
use Rattle.prio3_share.specs.Base.{Base}
use Rattle.prio3_share.specs.Texts.{drawn_for, wire_key}
use Rattle.prio3_share.specs.Sharing.{if_joint, joint_bytes, whole_proof}
use Rattle.prio3_share.specs.Preparing.{Half, half_of, own_part, x_bytes, proof_bytes}
use Rattle.prio3_share.specs.declared.usage.Usage.TheVariants.{WireSeeds}

-- both input shares read as halves, which add to the input x and to the proof of x from the drawn wire seeds; the public share has both halves' parts
pub record AddTo {F : Type 0} (b : Base F) (c : Shape F) (kind : ℕ) (id seed : List ℕ) (x : List F) (parts : Parts) : Type 0 where
  pub leader : Half F
  pub helper : Half F
  pub wire_seeds : List F
  pub reads_leader : half_of b c kind Leader parts.leader ≡ Some leader
  pub reads_helper : half_of b c kind Helper parts.helper ≡ Some helper
  pub draws : drawn_for b kind (wire_key kind seed) WireSeeds [] c.arity ≡ Some wire_seeds
  pub inputs : add_polynomials b.ring leader.x helper.x ≡ x
  pub proofs : add_polynomials b.ring leader.proof helper.proof ≡ whole_proof b c kind x wire_seeds
  pub public : parts.public ≡ if_joint c (own_part b c kind Leader id leader ++ own_part b c kind Helper id helper)

-- the lengths of the public share, of the leader's and of the helper's input share
pub record HaveLengths {F : Type 0} (b : Base F) (c : Shape F) (kind : ℕ) (parts : Parts) : Type 0 where
  pub public : length parts.public ≡ joint_bytes c 32
  pub leader : length parts.leader ≡ x_bytes b c kind + (proof_bytes b c kind + joint_bytes c 16)
  pub helper : length parts.helper ≡ 32 + joint_bytes c 16
