-- What the measurement function says of a report, as records hold it.
use Rattle.std.specs.Prelude.{◌≡◌, ℕ, List, [], ◌∷◌}
use Rattle.vdaf_api.specs.Functions.{Functions}
use Rattle.vdaf_api.specs.Verdict.{Verdict, ok, bad}
use Rattle.vdaf_api.specs.Vectors.{plus, zero_share}
use Rattle.vdaf_api.specs.declared.kind.Kind.{Kind}
use Rattle.vdaf_api.specs.declared.space.Space.{Space}
use Rattle.dap_messages.specs.declared.body.Step.{Step}
use Rattle.dap_messages.specs.declared.item.Tagged.{Tagged}
use Rattle.dap_messages.specs.declared.report.Report.{Report}
use Rattle.dap_tasks.specs.Task.{PlainTask}
use Rattle.dap_seal.specs.Reports as seal
use Rattle.dap_seal.specs.Steps.{step_told, code_told}
use Rattle.lane_records.specs.declared.outcome.Outcome.{Outcome}
use Rattle.lane_records.specs.declared.outcome.Outcome.TheVariants.{Finished, Failed}

-- the leader's item of a report
abbrev pub item_of : (Kind → Functions) → PlainTask → Report → Step
item_of f t r = step_told (seal.item_of (f t.kind) t r)

-- the outcome of a verdict, with the leader's out share
abbrev pub leader_part : Verdict → Outcome
leader_part (ok leader helper) = Finished leader
leader_part (bad number) = Failed (code_told number)

-- with the helper's
abbrev pub helper_part : Verdict → Outcome
helper_part (ok leader helper) = Finished helper
helper_part (bad number) = Failed (code_told number)

-- the leader's outcome of a report
abbrev pub leader_outcome : (Kind → Functions) → PlainTask → Report → Outcome
leader_outcome f t r = leader_part (seal.verdict_of (f t.kind) t r)

-- the helper's
abbrev pub helper_outcome : (Kind → Functions) → PlainTask → Report → Outcome
helper_outcome f t r = helper_part (seal.verdict_of (f t.kind) t r)

-- the content of a verdict: the sum of both out shares; noughts where it is failed
abbrev pub content_in : Space → Verdict → List ℕ
content_in s (ok leader helper) = plus s leader helper
content_in s (bad number) = zero_share s

-- the content of a report
abbrev pub content : (Kind → Functions) → PlainTask → Report → List ℕ
content f t r = content_in (f t.kind).space (seal.verdict_of (f t.kind) t r)

-- the report's verdict is ok
abbrev pub IsCounted : (Kind → Functions) → PlainTask → Report → Type 0
IsCounted f t r = (leader helper : List ℕ) × (seal.verdict_of (f t.kind) t r ≡ ok leader helper)

-- a finished outcome has the leader's out share of the report
abbrev pub HasShare : (Kind → Functions) → PlainTask → Report → Outcome → Type 0
HasShare f t r (Finished share) = (helper : List ℕ) × (seal.verdict_of (f t.kind) t r ≡ ok share helper)
HasShare f t r (Failed c) = Unit {0}

-- each has that of its report
abbrev pub HaveShares : (Kind → Functions) → PlainTask → List Report → List (Tagged Outcome) → Type 0
HaveShares f t [] outs = Unit {0}
HaveShares f t (r ∷ rs) [] = Unit {0}
HaveShares f t (r ∷ rs) (o ∷ outs) = HasShare f t r o.body × HaveShares f t rs outs
