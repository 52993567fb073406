-- What both aggregators say of a report in turn is what its verdict says.
use Rattle.std.specs.Prelude.{◌≡◌, ℕ, List, Ok, Err}
use Rattle.dap_messages.specs.declared.report.Report.{Report}
use Rattle.dap_tasks.specs.Task.{PlainTask}
use Rattle.vdaf_api.specs.Functions.{Functions}
use Rattle.vdaf_api.specs.Verdict.{helper_step, ok, bad}
use Rattle.vdaf_api.specs.declared.kind.Kind.{Kind}
use Rattle.dap_seal.specs.Reports.{item_of, opened_report, verdict_of}
use Rattle.dap_seal.specs.Steps.{code_told, half_of, item_by, outcome_by, prep_by, share_by, step_told}

-- The helper's first step and the leader's item are those of the report; after them both have the verdict's out shares, or the helper has its code.
pub record ComesToTheVerdict (f : Kind → Functions) (t : PlainTask) (r : Report) : Type 0 where
  pub step : prep_by f t r.name (half_of r) ≡ step_told (helper_step (f t.kind) (opened_report t r))
  pub item : item_by f t r (prep_by f t r.name (half_of r)) ≡ step_told (item_of (f t.kind) t r)
  pub leader : (leader helper : List ℕ) → verdict_of (f t.kind) t r ≡ ok leader helper → share_by f t r (step_told (item_of (f t.kind) t r)) ≡ leader
  pub helper : (leader helper : List ℕ) → verdict_of (f t.kind) t r ≡ ok leader helper
      → outcome_by f t r.name (half_of r) (step_told (item_of (f t.kind) t r)) ≡ Ok helper
  pub failed : (code : ℕ) → verdict_of (f t.kind) t r ≡ bad code → outcome_by f t r.name (half_of r) (step_told (item_of (f t.kind) t r)) ≡ Err (code_told code)
