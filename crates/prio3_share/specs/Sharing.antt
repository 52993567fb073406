-- Sharing: the two halves of a measurement's input and of its proof.
use Rattle.std.specs.Prelude.{ℕ, List, [], ◌++◌, map, Bool, nat_lt, if◌then◌else◌, Option, Some}
use Rattle.field_laws.specs.Ring.{Ring}
use Rattle.field_laws.specs.Polynomial.{add_polynomials}
use Rattle.flp_circuits.specs.Shape.{Shape}
use Rattle.flp_proof.specs.Proof.{proof_len, proof_of}
use Rattle.vdaf_api.specs.declared.role.Role.TheVariants.{Leader, Helper}
use Rattle.vdaf_api.specs.Functions.{Parts, ◌>>=◌}
use Rattle.prio3_share.specs.Base.{Base}
use Rattle.prio3_share.specs.Texts.{drawn_for, bytes_of, input_key, proof_key, wire_key, leader_blind, helper_blind, part, joint_seed}
use Rattle.prio3_share.specs.declared.usage.Usage.TheVariants.{HelperInput, JointRandomness, WireSeeds, HelperProof}

-- whether the validity takes joint randomness
abbrev pub has_joint : {F : Type 0} → Shape F → Bool
has_joint c = nat_lt 0 c.joint_len

-- these bytes where there is joint randomness, else no bytes
abbrev pub if_joint : {F : Type 0} → Shape F → List ℕ → List ℕ
if_joint c bytes = if has_joint c then bytes else []

-- this number where there is joint randomness, else 0
abbrev pub joint_bytes : {F : Type 0} → Shape F → ℕ → ℕ
joint_bytes c n = if has_joint c then n else 0

-- x minus y, entry by entry
abbrev pub differences : {F : Type 0} → Ring F → List F → List F → List F
differences ring x y = add_polynomials ring x (map ring.neg y)

module _ {F : Type 0} (b : Base F) (c : Shape F) (kind : ℕ) where
  -- the joint randomness of two parts, the leader's first; a drawing of nothing always has a value
  abbrev pub joint_randomness : List ℕ → List ℕ → Option (List F)
  joint_randomness leader helper = drawn_for b kind (joint_seed kind leader helper) JointRandomness [] c.joint_len

  -- the part of the leader, whose half of x is what the helper's leaves of it
  abbrev pub leader_part : List ℕ → List ℕ → List F → List F → List ℕ
  leader_part id seed x x_helper = part b kind Leader id (leader_blind kind seed) (differences b.ring x x_helper)

  -- the part of the helper
  abbrev pub helper_part : List ℕ → List ℕ → List F → List ℕ
  helper_part id seed x_helper = part b kind Helper id (helper_blind kind seed) x_helper

  -- the proof that x is valid, from its wire seeds
  abbrev pub whole_proof : List F → List F → List F
  whole_proof x wire_seeds = proof_of b.ring b.half b.root c x wire_seeds

  -- the shares of x as bytes: the helper's are the seeds that its halves are drawn from
  abbrev pub shares_of : List ℕ → List ℕ → List F → List F → List F → List F → Parts
  shares_of id seed x x_helper wire_seeds proof_helper = record {
    public = if_joint c (leader_part id seed x x_helper ++ helper_part id seed x_helper);
    leader = bytes_of b (differences b.ring x x_helper)
        ++ (bytes_of b (differences b.ring (whole_proof x wire_seeds) proof_helper)
        ++ if_joint c (leader_blind kind seed));
    helper = input_key kind seed ++ (proof_key kind seed ++ if_joint c (helper_blind kind seed));
  }

  -- the shares of an input; none where a drawing is spent
  unfoldable pub sharing : List ℕ → List F → List ℕ → Option Parts
  sharing id x seed =
      drawn_for b kind (input_key kind seed) HelperInput [] c.input_len >>= λ x_helper.
      joint_randomness (leader_part id seed x x_helper) (helper_part id seed x_helper) >>= λ r.
      drawn_for b kind (wire_key kind seed) WireSeeds [] c.arity >>= λ wire_seeds.
      drawn_for b kind (proof_key kind seed) HelperProof [] (proof_len c) >>= λ proof_helper.
      Some (shares_of id seed x x_helper wire_seeds proof_helper)

  -- the shares of a measurement; none where it isn't of the kind or a drawing is spent
  unfoldable pub shard : List ℕ → List ℕ → List ℕ → Option Parts
  shard id ms seed = c.encode ms >>= λ x. sharing id x seed

  -- a measurement as the vector that it adds to a sum: its truncated encoding
  abbrev pub encoding : List ℕ → Option (List ℕ)
  encoding ms = c.encode ms >>= λ x. Some (map b.number (c.truncate x))
