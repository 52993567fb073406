-- Reports of tasks as the keys of a table.
use Rattle.std.specs.Prelude.{ℕ, List, refl}
use Rattle.std.specs.Ordering.{nat_cmp, ordering_then}
use Rattle.std.specs.declared.cmp.Ordering.{Ordering}
use Rattle.std.specs.Cmp.Lexicographic.{slice_cmp}
use Rattle.std.specs.Coded.{Coded, code_by, coded×, coded_list, coded_ℕ}
use Rattle.std.specs.FinMap as map
use Rattle.dap_messages.specs.declared.job.JobNo.{JobNo}

-- a task's name and an identifier
abbrev pub Report : Type 0
Report = List ℕ × List ℕ

-- by name, and by identifier within a name
abbrev pub report_order : Report → Report → Ordering
report_order a b = ordering_then (slice_cmp nat_cmp a.0 b.0) (slice_cmp nat_cmp a.1 b.1)

-- a job's number is stored as its three numbers
abbrev pub job_code : Coded JobNo
job_code =
    code_by (ℕ × (ℕ × ℕ)) (coded× coded_ℕ (coded× coded_ℕ coded_ℕ)) (λ j. (j.lane, (j.incarnation, j.counter))) (λ p. record { lane = p.0; incarnation = p.1.0; counter = p.1.1 }) (λ _. refl)

-- how a table is stored
abbrev pub table_code : Coded (map.FinMap report_order JobNo)
table_code = map.code (coded× (coded_list coded_ℕ) (coded_list coded_ℕ)) job_code
