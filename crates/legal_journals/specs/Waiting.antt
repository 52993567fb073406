-- The reports that wait, each in a group and at the place of its Accept.
use Rattle.std.specs.Prelude.{◌≡◌, ℕ, Bool, not, ◌&&◌, ◌||◌, ◌==◌, cond, List, Option, Some, None}
use Rattle.std.specs.declared.cmp.Ordering.{Ordering}
use Rattle.std.specs.Ordering.{is_eq, nat_cmp, ordering_then}
use Rattle.dap_messages.specs.declared.report.Report.{Report}
use Rattle.lane_records.specs.declared.record.Record.{Record}
use Rattle.legal_journals.specs.declared.waiting.Waiting.{Waiting}
use Rattle.legal_journals.specs.Accepts.{accept_at}
use Rattle.legal_journals.specs.Tables.{at}

-- by group, and by place within a group
abbrev pub place_order : {G : Type 0} → (G → G → Ordering) → G × ℕ → G × ℕ → Ordering
place_order order a b = ordering_then (order a.0 b.0) (nat_cmp a.1 b.1)

-- the identifier of a report of the group that isn't settled
abbrev pub waits_under : {G : Type 0} → (G → G → Ordering) → (Report → G) → G → Bool → Option Report → Option (List ℕ)
waits_under order of group settled None = None
waits_under order of group settled (Some r) = cond (is_eq (order group (of r)) && not settled) (Some r.id) None

-- the identifier of the report that waits in the group at the place: the one of the Accept there, where it is of the group and that place isn't settled
abbrev pub waits_at : {G : Type 0} → (G → G → Ordering) → (Report → G) → (ℕ → Bool) → List Record → G × ℕ → Option (List ℕ)
waits_at order of settled records q = waits_under order of q.0 (settled q.1) (accept_at q.1 records)

-- what is kept are the reports of these records that wait, the oldest record first: each report is of the group that `of` tells, and waits until its place is settled
abbrev pub Waits : {G : Type 0} → (G → G → Ordering) → (Report → G) → (ℕ → Bool) → Waiting G → List Record → Type 0
Waits {G} order of settled w records = (q : G × ℕ) → at (place_order order) q w.reports ≡ waits_at order of settled records q

-- one place more is settled
abbrev pub settled_with : ℕ → (ℕ → Bool) → ℕ → Bool
settled_with place settled p = p == place || settled p
