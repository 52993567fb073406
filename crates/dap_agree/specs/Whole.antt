-- Collections of honest fair reports, in whole numbers.
use Rattle.std.specs.Prelude.{◌≡◌, ℕ, ◌<◌, List, length, map, filter_map, true, Some}
use Rattle.field_laws.specs.WholeSums.{entry_sum, whole_sum}
use Rattle.vdaf_api.specs.Functions.{Functions}
use Rattle.vdaf_api.specs.Totals.{total_numbers}
use Rattle.vdaf_api.specs.Vectors.{plus, numbers}
use Rattle.vdaf_api.specs.declared.kind.Kind.{Kind}
use Rattle.dap_messages.specs.declared.report.Report.{Report}
use Rattle.dap_seal.specs.Reports.{honest_report}
use Rattle.dap_tasks.specs.Task.{PlainTask}
use Rattle.lane_records.specs.declared.batch.Answered.{Answered}
use Rattle.legal_journals.specs.History.{Mem}

-- the report is the honest one of a measurement of the task, and fair
pub record IsHonest (f : Kind → Functions) (t : PlainTask) (measurement : List ℕ) (r : Report) : Type 0 where
  pub id_bytes : length r.id ≡ 16
  pub seed : List ℕ
  pub seed_bytes : length seed ≡ 16
  pub made : honest_report (f t.kind) t r.id r.time measurement seed ≡ Some r
  pub fair : (f t.kind).is_fair t.verify r.id ≡ true

-- the vectors of the reports' measurements
abbrev pub vectors_of : (Kind → Functions) → PlainTask → (Report → List ℕ) → List Report → List (List ℕ)
vectors_of f t measured rs = filter_map (f t.kind).encoding (map measured rs)

-- each of these reports is the honest one of a measurement
abbrev pub AreHonest : (Kind → Functions) → PlainTask → (Report → List ℕ) → List Report → Type 0
AreHonest f t measured rs = (r : Report) → Mem r rs → IsHonest f t (measured r) r

-- Where they are, the Answer's shares add to the sum of the measurements' vectors.
abbrev pub IsHonestSum : (Kind → Functions) → PlainTask → Answered → List Report → Type 0
IsHonestSum f t a rs =
    (measured : Report → List ℕ) → AreHonest f t measured rs →
    numbers (f t.kind).space (plus (f t.kind).space a.leader a.helper) ≡ total_numbers (f t.kind).space (vectors_of f t measured rs)

-- Where that sum in whole numbers is below the modulus at each place, too, it is what they add to.
abbrev pub IsWholeSum : (Kind → Functions) → PlainTask → Answered → List Report → Type 0
IsWholeSum f t a rs =
    (measured : Report → List ℕ) → AreHonest f t measured rs →
    ((place : ℕ) → place < (f t.kind).space.size → entry_sum (vectors_of f t measured rs) place < (f t.kind).space.modulus) →
    numbers (f t.kind).space (plus (f t.kind).space a.leader a.helper) ≡ whole_sum (f t.kind).space.size (vectors_of f t measured rs)
