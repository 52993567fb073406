-- The verdict on a report: what the steps of both aggregators give together.
use Rattle.std.specs.Prelude.{ℕ, List, Option, Some, None}
use Rattle.vdaf_api.specs.declared.role.Role.{Role}
use Rattle.vdaf_api.specs.declared.role.Role.TheVariants.{Leader, Helper}
use Rattle.vdaf_api.specs.declared.answer.Answer.{Answer}
use Rattle.vdaf_api.specs.declared.step.Step.{Step}
use Rattle.vdaf_api.specs.declared.step.Step.TheVariants.{Continued, Failed}
use Rattle.vdaf_api.specs.Functions.{Functions, Parts, ◌>>=◌}
use Rattle.vdaf_api.specs.Vectors.{plus, numbers}

-- a report under a task, with both halves as they open: none where a half's ciphertext doesn't
pub record Opened : Type 0 where
  pub key : List ℕ
  pub id : List ℕ
  pub public : List ℕ
  pub leader : Option (List ℕ)
  pub helper : Option (List ℕ)

-- the report that these shares make, where each half opens to its share
abbrev pub opened : List ℕ → List ℕ → Parts → Opened
opened key id parts = record { key = key; id = id; public = parts.public; leader = Some parts.leader; helper = Some parts.helper }

-- a step that goes on, or has no value
abbrev pub or_invalid : Option (List ℕ) → Step
or_invalid (Some bytes) = Continued bytes
or_invalid None = Failed 5

-- the helper's step for what its half opens to
abbrev pub helper_share : Functions → Opened → Option (List ℕ) → Step
helper_share f r (Some input) = or_invalid (f.share Helper r.key r.id r.public input)
helper_share f r None = Failed 4

-- the helper's step: its prep share, or a code
abbrev pub helper_step : Functions → Opened → Step
helper_step f r = helper_share f r r.helper

-- the prep message, where the leader's own out share follows from it
abbrev pub leader_message : Functions → Opened → List ℕ → List ℕ → Option (List ℕ)
leader_message f r input theirs =
    f.share Leader r.key r.id r.public input >>= λ ours.
    f.combine ours theirs >>= λ message.
    f.out Leader r.key r.id r.public input message >>= λ out.
    Some message

-- the leader's part, for what its half opens to and the helper's prep share
abbrev pub leader_part : Functions → Opened → Option (List ℕ) → List ℕ → Step
leader_part f r (Some input) theirs = or_invalid (leader_message f r input theirs)
leader_part f r None theirs = Failed 4

-- the leader's item for a helper's step: that step's code, or the leader's part
abbrev pub item_after : Functions → Opened → Step → Step
item_after f r (Continued theirs) = leader_part f r r.leader theirs
item_after f r (Failed code) = Failed code

-- the leader's item: the prep message, or a code
abbrev pub leader_item : Functions → Opened → Step
leader_item f r = item_after f r (helper_step f r)

-- a half's out share after a prep message
abbrev pub out_of : Functions → Role → Opened → Option (List ℕ) → List ℕ → Option (List ℕ)
out_of f role r (Some input) message = f.out role r.key r.id r.public input message
out_of f role r None message = None

-- the helper's out share after a prep message
abbrev pub helper_out : Functions → Opened → List ℕ → Option (List ℕ)
helper_out f r message = out_of f Helper r r.helper message

-- the leader's out share after a prep message
abbrev pub leader_out : Functions → Opened → List ℕ → Option (List ℕ)
leader_out f r message = out_of f Leader r r.leader message

-- the leader's and the helper's out share, or a code
pub data Verdict : Type 0 where
  ok : List ℕ → List ℕ → Verdict
  bad : ℕ → Verdict

-- ok where both out shares are there, and else code 5
abbrev pub both_outs : Option (List ℕ) → Option (List ℕ) → Verdict
both_outs (Some leader) (Some helper) = ok leader helper
both_outs (Some leader) None = bad 5
both_outs None o = bad 5

-- the verdict for a leader's item: its code, or what both out shares give
abbrev pub verdict_after : Functions → Opened → Step → Verdict
verdict_after f r (Continued message) = both_outs (leader_out f r message) (helper_out f r message)
verdict_after f r (Failed code) = bad code

-- the verdict on a report
abbrev pub verdict : Functions → Opened → Verdict
verdict f r = verdict_after f r (leader_item f r)

-- the content of a report as bytes, which is the sum of its out shares
abbrev pub content_of : Functions → Verdict → Option (List ℕ)
content_of f (ok leader helper) = Some (plus f.space leader helper)
content_of f (bad code) = None

-- the content as numbers
abbrev pub numbers_of : Functions → Verdict → Option (List ℕ)
numbers_of f (ok leader helper) = Some (numbers f.space (plus f.space leader helper))
numbers_of f (bad code) = None

-- the answer of two out shares, or of two sums of them
abbrev pub answer_of_shares : Functions → List ℕ → List ℕ → Answer
answer_of_shares f leader helper = f.answer (numbers f.space (plus f.space leader helper))
