-- What each aggregator says of a report, in messages.
use Rattle.std.specs.Prelude.{ℕ, List, Option, Some, None, Result, Ok, Err}
use Rattle.dap_messages.specs.Forms.{code_of}
use Rattle.dap_messages.specs.declared.body.Half.{Half}
use Rattle.dap_messages.specs.declared.body.Step.{Step}
use Rattle.dap_messages.specs.declared.body.Step.TheVariants.{Continued, Failed}
use Rattle.dap_messages.specs.declared.code.Code.{Code}
use Rattle.dap_messages.specs.declared.code.Code.TheVariants.{VdafPrepError}
use Rattle.dap_messages.specs.declared.item.Tagged.{Tagged}
use Rattle.dap_messages.specs.declared.report.Report.{Report}
use Rattle.dap_tasks.specs.Task.{PlainTask}
use Rattle.vdaf_api.specs.Functions.{Functions, ◌>>=◌}
use Rattle.vdaf_api.specs.Vectors.{zero_share}
use Rattle.vdaf_api.specs.Verdict.{Opened, helper_out, helper_step, leader_out, leader_part}
use Rattle.vdaf_api.specs.declared.kind.Kind.{Kind}
use Rattle.vdaf_api.specs.declared.step.Step as prepared
use Rattle.vdaf_api.specs.declared.step.Step.TheVariants as prep
use Rattle.dap_seal.specs.declared.head.Head.{Head}
use Rattle.dap_seal.specs.Reports.{helper_seen, opened_report}

-- the code, or that preparing has no value
abbrev pub or_unprepared : Option Code → Code
or_unprepared (Some code) = code
or_unprepared None = VdafPrepError

-- the code of a number
abbrev pub code_told : ℕ → Code
code_told number = or_unprepared (code_of number)

-- a step as messages tell it
abbrev pub step_told : prepared.Step → Step
step_told (prep.Continued bytes) = Continued bytes
step_told (prep.Failed number) = Failed (code_told number)

-- ---- by the halves as they open

-- the prep message of both prep shares, where an out share follows from it
abbrev pub message_with : Functions → (List ℕ → Option (List ℕ)) → List ℕ → List ℕ → Option (List ℕ)
message_with f out_of ours theirs = f.combine ours theirs >>= λ message. out_of message >>= λ out. Some message

-- the leader's item for a helper's step: that step's code, or the leader's own, or the prep message
abbrev pub item_from : Functions → Opened → Step → Step
item_from f r (Continued theirs) = step_told (leader_part f r r.leader theirs)
item_from f r (Failed code) = Failed code

-- an out share, or the zero share where there is none
abbrev pub or_zero : Functions → Option (List ℕ) → List ℕ
or_zero f (Some out) = out
or_zero f None = zero_share f.space

-- the leader's share after its item: its out share, or the zero share where it has none
abbrev pub share_from : Functions → Opened → Step → List ℕ
share_from f r (Continued message) = or_zero f (leader_out f r message)
share_from f r (Failed code) = zero_share f.space

-- an out share, or that preparing has no value
abbrev pub or_code : Option (List ℕ) → Result (List ℕ) Code
or_code (Some out) = Ok out
or_code None = Err VdafPrepError

-- what the helper's first step and the leader's item come to: the step's code, else the item's, else the helper's out share or a code
abbrev pub outcome_with : Functions → Opened → Step → Step → Result (List ℕ) Code
outcome_with f r (Failed code) item = Err code
outcome_with f r (Continued share) (Failed code) = Err code
outcome_with f r (Continued share) (Continued message) = or_code (helper_out f r message)

-- what the leader's item comes to at the helper
abbrev pub outcome_from : Functions → Opened → Step → Result (List ℕ) Code
outcome_from f r item = outcome_with f r (step_told (helper_step f r)) item

-- ---- report by report

-- what the helper gets of a report
abbrev pub half_of : Report → Tagged Half
half_of r = record { id = r.id; body = record { time = r.time; public = r.public; helper = r.helper } }

-- what the helper's sealed share is bound to, in a request of this name
abbrev pub half_head : List ℕ → Tagged Half → Head
half_head name h = record { name = name; id = h.id; time = h.body.time; public = h.body.public }

-- the report as the helper sees it by what it gets, under a task
abbrev pub half_opened : PlainTask → List ℕ → Tagged Half → Opened
half_opened t name h = helper_seen t (half_head name h) h.body.helper

-- the helper's first step
abbrev pub prep_by : (Kind → Functions) → PlainTask → List ℕ → Tagged Half → Step
prep_by f t name h = step_told (helper_step (f t.kind) (half_opened t name h))

-- the leader's item for it
abbrev pub item_by : (Kind → Functions) → PlainTask → Report → Step → Step
item_by f t r step = item_from (f t.kind) (opened_report t r) step

-- the leader's share of its item
abbrev pub share_by : (Kind → Functions) → PlainTask → Report → Step → List ℕ
share_by f t r item = share_from (f t.kind) (opened_report t r) item

-- what the leader's item comes to at the helper, before it looks for repeats and closed batches
abbrev pub outcome_by : (Kind → Functions) → PlainTask → List ℕ → Tagged Half → Step → Result (List ℕ) Code
outcome_by f t name h item = outcome_from (f t.kind) (half_opened t name h) item
