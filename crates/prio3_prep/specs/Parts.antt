-- A start, cut where the code is cut.
use Rattle.std.specs.Prelude.{ℕ, List, ◌++◌, Option, Some}
use Rattle.flp_circuits.specs.Shape.{Shape}
use Rattle.flp_proof.specs.Proof.{query_of}
use Rattle.vdaf_api.specs.declared.role.Role.{Role}
use Rattle.vdaf_api.specs.Functions.{◌>>=◌}
use Rattle.prio3_share.specs.Base.{Base}
use Rattle.prio3_share.specs.Texts.{bytes_of, joint_seed}
use Rattle.prio3_share.specs.Sharing.{if_joint, joint_randomness}
use Rattle.prio3_share.specs.Preparing.{Half, Started, own_part, left_part, right_part, point_of}

module _ {F : Type 0} (b : Base F) (c : Shape F) (kind : ℕ) where
  -- the prep share and the state at the query point t
  abbrev pub start_at : List F → List F → List F → List ℕ → List ℕ → F → Started
  start_at x proof r own message t = record {
    share = bytes_of b (query_of b.ring b.half b.root c b.half x proof r t) ++ own;
    out = bytes_of b (c.truncate x);
    message = message;
  }

  -- the same at the point that is drawn
  unfoldable pub start_at_drawn : List ℕ → List ℕ → List F → List F → List F → List ℕ → List ℕ → Option Started
  start_at_drawn verify id x proof r own message = point_of b c kind verify id >>= λ t. Some (start_at x proof r own message t)

  -- what follows once a half has been read
  unfoldable pub start_of_half : Role → List ℕ → List ℕ → List ℕ → Half F → Option Started
  start_of_half role verify id public h =
      joint_randomness b c kind (left_part b c kind role id public h) (right_part b c kind role id public h) >>= λ r.
      start_at_drawn verify id h.x h.proof r (if_joint c (own_part b c kind role id h)) (if_joint c (joint_seed kind (left_part b c kind role id public h) (right_part b c kind role id public h)))
