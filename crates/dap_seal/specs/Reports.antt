-- Reports under a task: what they come to, and the honest ones.
use Rattle.std.specs.Prelude.{ℕ, List, Option, None}
use Rattle.std.specs.Option.{option_map}
use Rattle.dap_messages.specs.declared.report.Report.{Report}
use Rattle.dap_tasks.specs.Task.{PlainTask}
use Rattle.vdaf_api.specs.declared.keys.SealKeys.{SealKeys}
use Rattle.vdaf_api.specs.declared.role.Role.TheVariants.{Leader, Helper}
use Rattle.vdaf_api.specs.declared.step.Step.{Step}
use Rattle.vdaf_api.specs.Functions.{Functions, Parts}
use Rattle.vdaf_api.specs.Verdict.{Opened, Verdict, helper_share, leader_item, verdict, content_of, numbers_of}
use Rattle.dap_seal.specs.declared.head.Head.{Head}
use Rattle.dap_seal.specs.Sealed.{opened_by, sealed_by}

-- what a report's sealed shares are bound to
abbrev pub head_of : Report → Head
head_of r = record { name = r.name; id = r.id; time = r.time; public = r.public }

-- a report under a task, with both halves as they open
abbrev pub opened_report : PlainTask → Report → Opened
opened_report t r = record {
  key = t.verify;
  id = r.id;
  public = r.public;
  leader = opened_by t.leader Leader (head_of r) r.leader;
  helper = opened_by t.helper Helper (head_of r) r.helper;
}

-- a report as the leader sees it, which opens its own half alone: its task, the head, and its sealed share
abbrev pub leader_seen : PlainTask → Head → List ℕ → Opened
leader_seen t head sealed = record { key = t.verify; id = head.id; public = head.public; leader = opened_by t.leader Leader head sealed; helper = None }

-- a report as the helper sees it, likewise
abbrev pub helper_seen : PlainTask → Head → List ℕ → Opened
helper_seen t head sealed = record { key = t.verify; id = head.id; public = head.public; leader = None; helper = opened_by t.helper Helper head sealed }

-- the helper's step, by its half of the task and its half of the report alone: the verify key, the helper's keys, the head, and the helper's sealed share
abbrev pub helper_step_of : Functions → List ℕ → SealKeys → Head → List ℕ → Step
helper_step_of f verify keys head sealed =
    helper_share f (record { key = verify; id = head.id; public = head.public; leader = None; helper = None }) (opened_by keys Helper head sealed)

-- the leader's item: the helper's code, or the leader's own, or the prep message
abbrev pub item_of : Functions → PlainTask → Report → Step
item_of f t r = leader_item f (opened_report t r)

-- the verdict on a report
abbrev pub verdict_of : Functions → PlainTask → Report → Verdict
verdict_of f t r = verdict f (opened_report t r)

-- the content of a report as bytes, if its verdict is ok
abbrev pub content_bytes_of : Functions → PlainTask → Report → Option (List ℕ)
content_bytes_of f t r = content_of f (verdict_of f t r)

-- the same as numbers
abbrev pub content_numbers_of : Functions → PlainTask → Report → Option (List ℕ)
content_numbers_of f t r = numbers_of f (verdict_of f t r)

-- the head of a report that is made of these shares
abbrev pub head_with : PlainTask → List ℕ → ℕ → Parts → Head
head_with t id time p = record { name = t.name; id = id; time = time; public = p.public }

-- the report of these shares, each half sealed for its aggregator
abbrev pub report_of : PlainTask → List ℕ → ℕ → Parts → Report
report_of t id time p = record {
  name = t.name;
  id = id;
  time = time;
  public = p.public;
  leader = sealed_by t.leader Leader (head_with t id time p) p.leader;
  helper = sealed_by t.helper Helper (head_with t id time p) p.helper;
}

-- the honest report of a list of numbers with a seed, where sharding has a value
abbrev pub honest_report : Functions → PlainTask → List ℕ → ℕ → List ℕ → List ℕ → Option Report
honest_report f t id time ms seed = option_map (report_of t id time) (f.shard id ms seed)
