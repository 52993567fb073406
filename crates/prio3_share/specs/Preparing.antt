-- Preparing: what an aggregator makes of its half, and what the two prep shares give together.
use Rattle.std.specs.Prelude.{ℕ, ◌+◌, ◌*◌, ◌^◌, List, [], ◌++◌, length, map, take, drop, Bool, not, ◌&&◌, nat_eq, Option, Some, slice_index_or}
use Rattle.std.specs.Option.{is_some}
use Rattle.std.specs.Str.{bytes_eq}
use Rattle.field_laws.specs.Ring.{power}
use Rattle.field_laws.specs.Polynomial.{add_polynomials}
use Rattle.flp_circuits.specs.Shape.{Shape, gadget}
use Rattle.flp_proof.specs.Proof.{wire_log, proof_len, query_of}
use Rattle.vdaf_api.specs.declared.role.Role.{Role}
use Rattle.vdaf_api.specs.declared.role.Role.TheVariants.{Leader, Helper}
use Rattle.vdaf_api.specs.Functions.{◌>>=◌}
use Rattle.vdaf_api.specs.Vectors.{when, vector_of}
use Rattle.prio3_share.specs.Base.{Base, is_same}
use Rattle.prio3_share.specs.Texts.{drawn_for, bytes_of, part, joint_seed}
use Rattle.prio3_share.specs.Sharing.{if_joint, joint_bytes, joint_randomness}
use Rattle.prio3_share.specs.declared.usage.Usage.TheVariants.{HelperInput, HelperProof, QueryPoint}

-- the n elements that these bytes spell; none for another length, or where one isn't below the modulus
abbrev pub elements_of : {F : Type 0} → Base F → ℕ → List ℕ → Option (List F)
elements_of b n bytes = vector_of b.modulus b.width n bytes >>= λ numbers. Some (map b.residue numbers)

-- what an input share holds: its half of the input, its half of the proof, and its blind
pub record Half (F : Type 0) : Type 0 where
  pub x : List F
  pub proof : List F
  pub blind : List ℕ

-- what init makes of a half: the prep share, and the state, which is the out share and the joint seed
pub record Started : Type 0 where
  pub share : List ℕ
  pub out : List ℕ
  pub message : List ℕ

-- the leader's part: the own one is made, the other one taken from the public share
abbrev pub leader_part_for : Role → List ℕ → List ℕ → List ℕ
leader_part_for Leader own public = own
leader_part_for Helper own public = take 16 public

-- the helper's part, likewise
abbrev pub helper_part_for : Role → List ℕ → List ℕ → List ℕ
helper_part_for Leader own public = drop 16 public
helper_part_for Helper own public = own

-- the out share, where the message is the one that the state waits for
abbrev pub finish : Started → List ℕ → Option (List ℕ)
finish s message = when (bytes_eq message s.message) (Some s.out)

module _ {F : Type 0} (b : Base F) (c : Shape F) (kind : ℕ) where
  -- how many bytes a half of the input has
  abbrev pub x_bytes : ℕ
  x_bytes = c.input_len * b.width

  -- how many bytes a half of the proof has
  abbrev pub proof_bytes : ℕ
  proof_bytes = proof_len c * b.width

  -- how many bytes a verifier share has
  abbrev pub verifier_bytes : ℕ
  verifier_bytes = (c.arity + 2) * b.width

  -- the leader's input share spells its halves; the helper's are drawn from its keys
  unfoldable pub half_of : Role → List ℕ → Option (Half F)
  half_of Leader input =
      when (nat_eq (length input) (x_bytes + (proof_bytes + joint_bytes c 16))) (
      elements_of b c.input_len (take x_bytes input) >>= λ x.
      elements_of b (proof_len c) (take proof_bytes (drop x_bytes input)) >>= λ proof.
      Some (record { x = x; proof = proof; blind = drop proof_bytes (drop x_bytes input) }))
  half_of Helper input =
      when (nat_eq (length input) (32 + joint_bytes c 16)) (
      drawn_for b kind (take 16 input) HelperInput [] c.input_len >>= λ x.
      drawn_for b kind (take 16 (drop 16 input)) HelperProof [] (proof_len c) >>= λ proof.
      Some (record { x = x; proof = proof; blind = drop 16 (drop 16 input) }))

  -- whether an input share has the form of one: for the leader that it spells a half, for the helper its length
  unfoldable pub is_input : Role → List ℕ → Bool
  is_input Leader input = is_some (half_of Leader input)
  is_input Helper input = nat_eq (length input) (32 + joint_bytes c 16)

  -- whether a half has the form of one, by its role, its public share and its input share
  abbrev pub is_half : Role → List ℕ → List ℕ → Bool
  is_half role public input = nat_eq (length public) (joint_bytes c 32) && is_input role input

  -- the part that a half gives itself
  abbrev pub own_part : Role → List ℕ → Half F → List ℕ
  own_part role id h = part b kind role id h.blind h.x

  -- the leader's part, as a half of this role knows it
  abbrev pub left_part : Role → List ℕ → List ℕ → Half F → List ℕ
  left_part role id public h = leader_part_for role (own_part role id h) public

  -- the helper's part, as a half of this role knows it
  abbrev pub right_part : Role → List ℕ → List ℕ → Half F → List ℕ
  right_part role id public h = helper_part_for role (own_part role id h) public

  -- whether a query at t has no value
  abbrev pub is_root : F → Bool
  is_root t = is_same b (power b.ring t (2 ^ wire_log c.calls)) b.ring.unit

  -- the query point: the one element drawn from the verify key for the identifier, where it is no root
  unfoldable pub point_of : List ℕ → List ℕ → Option F
  point_of verify id =
      drawn_for b kind verify QueryPoint id 1 >>= λ ts.
      when (not (is_root (slice_index_or ts 0 b.ring.nought))) (Some (slice_index_or ts 0 b.ring.nought))

  -- the verifier share of a half at t
  abbrev pub verifier : Half F → List F → F → List F
  verifier h r t = query_of b.ring b.half b.root c b.half h.x h.proof r t

  -- what is made of a half at the joint randomness r and the query point t
  abbrev pub started_at : Role → List ℕ → List ℕ → Half F → List F → F → Started
  started_at role id public h r t = record {
    share = bytes_of b (verifier h r t) ++ if_joint c (own_part role id h);
    out = bytes_of b (c.truncate h.x);
    message = if_joint c (joint_seed kind (left_part role id public h) (right_part role id public h));
  }

  -- init: a verify key, an identifier, a public share and an input share
  unfoldable pub start : Role → List ℕ → List ℕ → List ℕ → List ℕ → Option Started
  start role verify id public input =
      when (nat_eq (length public) (joint_bytes c 32)) (
      half_of role input >>= λ h.
      joint_randomness b c kind (left_part role id public h) (right_part role id public h) >>= λ r.
      point_of verify id >>= λ t.
      Some (started_at role id public h r t))

  -- the prep share
  abbrev pub share_of : Role → List ℕ → List ℕ → List ℕ → List ℕ → Option (List ℕ)
  share_of role verify id public input = start role verify id public input >>= λ s. Some s.share

  -- the out share, once the prep message is there
  abbrev pub out_of : Role → List ℕ → List ℕ → List ℕ → List ℕ → List ℕ → Option (List ℕ)
  out_of role verify id public input message = start role verify id public input >>= λ s. finish s message

  -- decide says yes: the validity value is nought, and the gadget of the wires is the last element
  abbrev pub accepts : List F → Bool
  accepts v =
      is_same b (slice_index_or v 0 b.ring.nought) b.ring.nought
      && is_same b (gadget b.ring c (take c.arity (drop 1 v))) (slice_index_or v (c.arity + 1) b.ring.nought)

  -- the verifier share in a prep share
  abbrev pub verifier_of : List ℕ → Option (List F)
  verifier_of share =
      when (nat_eq (length share) (verifier_bytes + joint_bytes c 16)) (
      elements_of b (c.arity + 2) (take verifier_bytes share))

  -- whether bytes have the form of a prep share: they spell a verifier share, and have the length
  abbrev pub is_share : List ℕ → Bool
  is_share share = is_some (verifier_of share)

  -- whether both are prep shares by their form
  abbrev pub are_shares : List ℕ → List ℕ → Bool
  are_shares leader helper = is_share leader && is_share helper

  -- the joint seed of the parts behind two verifier shares; no bytes where there is no joint randomness
  abbrev pub message_of : List ℕ → List ℕ → List ℕ
  message_of leader helper = if_joint c (joint_seed kind (drop verifier_bytes leader) (drop verifier_bytes helper))

  -- the prep message of the leader's and the helper's prep shares
  unfoldable pub combine : List ℕ → List ℕ → Option (List ℕ)
  combine leader helper =
      verifier_of leader >>= λ v.
      verifier_of helper >>= λ w.
      when (accepts (add_polynomials b.ring v w)) (
      Some (message_of leader helper))

  -- whether a report of this identifier can be prepared under the verify key: there is a query point
  abbrev pub is_fair : List ℕ → List ℕ → Bool
  is_fair verify id = is_some (point_of verify id)
