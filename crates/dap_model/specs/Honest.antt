-- A batch of honest fair reports, in the measurements that they carry.
use Rattle.std.specs.Prelude.{◌≡◌, ℕ, List, [], ◌∷◌, length, filter_map, true, Some}
use Rattle.dap_bytes.specs.declared.span.Span.{Span}
use Rattle.vdaf_api.specs.Functions.{Functions}
use Rattle.vdaf_api.specs.Totals.{total_numbers}
use Rattle.vdaf_api.specs.declared.kind.Kind.{Kind}
use Rattle.dap_messages.specs.declared.report.Report.{Report}
use Rattle.dap_seal.specs.Reports.{honest_report}
use Rattle.dap_tasks.specs.Task.{PlainTask}
use Rattle.dap_model.specs.declared.printed.Printed.{Printed}
use Rattle.dap_model.specs.declared.printed.Printed.TheVariants.{Collected}

-- The report is the honest one of a measurement of the task, and fair.
pub record Carries (f : Kind → Functions) (t : PlainTask) (measurement : List ℕ) (r : Report) : Type 0 where
  pub id_bytes : length r.id ≡ 16
  pub seed : List ℕ
  pub seed_bytes : length seed ≡ 16
  pub made : honest_report (f t.kind) t r.id r.time measurement seed ≡ Some r
  pub fair : (f t.kind).is_fair t.verify r.id ≡ true

-- The reports carry these measurements, one each, in their order.
abbrev pub CarryEach : (Kind → Functions) → PlainTask → List (List ℕ) → List Report → Type 0
CarryEach f t [] [] = Unit {0}
CarryEach f t [] (r ∷ reports) = ⊥
CarryEach f t (measurement ∷ measurements) [] = ⊥
CarryEach f t (measurement ∷ measurements) (r ∷ reports) =
    Carries f t measurement r × CarryEach f t measurements reports

-- The batch has a report for each of these measurements and none that is rejected, and its answer is that of the sum
-- of their vectors.
abbrev pub honest_line : (Kind → Functions) → PlainTask → List ℕ → Span → List (List ℕ) → Printed
honest_line f t name span measurements =
    let total = total_numbers (f t.kind).space (filter_map (f t.kind).encoding measurements) in
    Collected name span (record { reports = length measurements; rejected = 0; answer = (f t.kind).answer total })
