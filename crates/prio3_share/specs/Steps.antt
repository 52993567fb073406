-- Sharing in steps, from the keys of a seed.
use Rattle.std.specs.Prelude.{ℕ, List, [], ◌++◌, Option, Some}
use Rattle.flp_circuits.specs.Shape.{Shape}
use Rattle.flp_proof.specs.Proof.{proof_len}
use Rattle.vdaf_api.specs.declared.role.Role.TheVariants.{Leader, Helper}
use Rattle.vdaf_api.specs.Functions.{Parts, ◌>>=◌}
use Rattle.prio3_share.specs.Base.{Base}
use Rattle.prio3_share.specs.Texts.{drawn_for, bytes_of, part, input_key, proof_key, wire_key, leader_blind, helper_blind}
use Rattle.prio3_share.specs.Sharing.{if_joint, differences, joint_randomness, whole_proof}
use Rattle.prio3_share.specs.declared.keys.SeedKeys.{SeedKeys}
use Rattle.prio3_share.specs.declared.usage.Usage.{Usage}
use Rattle.prio3_share.specs.declared.usage.Usage.TheVariants.{HelperInput, WireSeeds, HelperProof}

-- the keys of a seed
abbrev pub keys_of : ℕ → List ℕ → SeedKeys
keys_of kind seed = record {
  input = input_key kind seed;
  proof = proof_key kind seed;
  wires = wire_key kind seed;
  leader_blind = leader_blind kind seed;
  helper_blind = helper_blind kind seed;
}

-- a vector in two halves
pub record Halved (F : Type 0) : Type 0 where
  pub leader : List F
  pub helper : List F

-- the helper's half is drawn, and the leader's is what that leaves of the whole
unfoldable pub halved : {F : Type 0} → Base F → ℕ → List ℕ → Usage → ℕ → List F → Option (Halved F)
halved b kind key usage n whole = drawn_for b kind key usage [] n >>= λ helper. Some (record { leader = differences b.ring whole helper; helper = helper })

module _ {F : Type 0} (b : Base F) (c : Shape F) (kind : ℕ) where
  -- the proof in two halves
  unfoldable pub proof_halved : SeedKeys → List F → Option (Halved F)
  proof_halved keys x =
      drawn_for b kind keys.wires WireSeeds [] c.arity >>= λ wire_seeds.
      halved b kind keys.proof HelperProof (proof_len c) (whole_proof b c kind x wire_seeds)

  -- the part of the leader's half of the input
  abbrev pub left : List ℕ → SeedKeys → Halved F → List ℕ
  left id keys input = part b kind Leader id keys.leader_blind input.leader

  -- the part of the helper's half of the input
  abbrev pub right : List ℕ → SeedKeys → Halved F → List ℕ
  right id keys input = part b kind Helper id keys.helper_blind input.helper

  -- the shares of an input and its proof in halves
  abbrev pub report_of : List ℕ → SeedKeys → Halved F → Halved F → Parts
  report_of id keys input proof = record {
    public = if_joint c (left id keys input ++ right id keys input);
    leader = bytes_of b input.leader ++ (bytes_of b proof.leader ++ if_joint c keys.leader_blind);
    helper = keys.input ++ (keys.proof ++ if_joint c keys.helper_blind);
  }

  -- the shares of an input, from the keys
  unfoldable pub sharing_with : List ℕ → List F → SeedKeys → Option Parts
  sharing_with id x keys =
      halved b kind keys.input HelperInput c.input_len x >>= λ input.
      joint_randomness b c kind (left id keys input) (right id keys input) >>= λ r.
      proof_halved keys x >>= λ proof.
      Some (report_of id keys input proof)
