-- The numbers of a task.
use Rattle.std.specs.Prelude.{ℕ, ◌≤◌, Option, IfSome}
use Rattle.dap_bytes.specs.declared.limits.TheConstants.{GREATEST_MINIMUM, GREATEST_PRECISION, LATEST_TIME}
use Rattle.vdaf_api.specs.Kind.{IsKind}
use Rattle.vdaf_api.specs.declared.kind.Kind.{Kind}

-- the kind, the minimum and the precision of a task are within their ranges
pub record AreTaskNumbers (kind : Kind) (min precision : ℕ) : Type 0 where
  pub kind_ranges : IsKind kind
  pub some_reports : 1 ≤ min
  pub few_reports : min ≤ GREATEST_MINIMUM
  pub some_time : 1 ≤ precision
  pub little_time : precision ≤ GREATEST_PRECISION

-- the moment from which a task takes no more reports is a time, where there is one
abbrev pub IsExpiry : Option ℕ → Type 0
IsExpiry expires = IfSome expires (λ t. t ≤ LATEST_TIME)
