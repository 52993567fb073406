-- What the halves of an accepted report are together.
use Rattle.std.specs.Prelude.{◌≡◌, ℕ, List, length, Some}
use Rattle.field_laws.specs.Polynomial.{add_polynomials}
use Rattle.flp_circuits.specs.Shape.{Shape, IsValid}
use Rattle.flp_proof.specs.Proof.{Accepts, proof_of, query_of}
use Rattle.vdaf_api.specs.declared.answer.Answer.{Answer}
use Rattle.vdaf_api.specs.declared.role.Role.TheVariants.{Leader, Helper}
use Rattle.vdaf_api.specs.Functions.{Parts}
use Rattle.vdaf_api.specs.Verdict.{ok, opened, verdict}
use Rattle.prio3_share.specs.Base.{Base}
use Rattle.prio3_share.specs.Texts.{bytes_of}
use Rattle.prio3_share.specs.Sharing.{joint_randomness}
use Rattle.prio3_share.specs.Preparing.{Half, half_of, left_part, right_part, point_of}
use Rattle.prio3_share.specs.Functions.{functions_of}

module _ {F : Type 0} (b : Base F) (c : Shape F) (kind : ℕ) where
  -- both input shares read as halves, which add to an input and a proof whose query the decision accepts, at the joint randomness of both parts and the query point; the out shares are those of the halves
  pub record IsDecided (verify id : List ℕ) (parts : Parts) (leader_out helper_out : List ℕ) : Type 0 where
    pub leader : Half F
    pub helper : Half F
    pub joint : List F
    pub point : F
    pub reads_leader : half_of b c kind Leader parts.leader ≡ Some leader
    pub reads_helper : half_of b c kind Helper parts.helper ≡ Some helper
    pub draws : joint_randomness b c kind (left_part b c kind Leader id parts.public leader) (right_part b c kind Leader id parts.public leader) ≡ Some joint
    pub draws_alike : joint_randomness b c kind (left_part b c kind Helper id parts.public helper) (right_part b c kind Helper id parts.public helper) ≡ Some joint
    pub draws_point : point_of b c kind verify id ≡ Some point
    pub accepted : Accepts b.ring c
        (query_of b.ring b.half b.root c b.ring.unit (add_polynomials b.ring leader.x helper.x) (add_polynomials b.ring leader.proof helper.proof) joint point)
    -- with the input's own proof the input keeps the circuit's rules
    pub valid : (seeds : List F) → length seeds ≡ c.arity
        → add_polynomials b.ring leader.proof helper.proof ≡ proof_of b.ring b.half b.root c (add_polynomials b.ring leader.x helper.x) seeds
        → IsValid b.ring c (add_polynomials b.ring leader.x helper.x) joint
    pub leader_out_is : leader_out ≡ bytes_of b (c.truncate leader.x)
    pub helper_out_is : helper_out ≡ bytes_of b (c.truncate helper.x)

  -- a report of any two shares whose verdict is ok is decided so
  abbrev pub AcceptedAreDecided : (List ℕ → Answer) → Type 0
  AcceptedAreDecided answer = (verify id : List ℕ) (p : Parts) (leader helper : List ℕ)
      → verdict (functions_of b c kind answer) (opened verify id p) ≡ ok leader helper → IsDecided verify id p leader helper
