-- The bytes of honest reports.
use Rattle.std.specs.Prelude.{◌≡◌, ℕ, List, Option, Some, None, Vec}
use Rattle.std.specs.declared.alloc.Global.{Global}
use Rattle.dap_messages.specs.declared.report.Report.{Report}
use Rattle.dap_model.specs.Step.{name_in, report_in}

-- the bytes begin with the name and spell the report that there is
pub record AreBytesOf (name : List ℕ) (honest : Option Report) (bytes : List ℕ) : Type 0 where
  pub made : Report
  pub is : honest ≡ Some made
  pub read : report_in bytes ≡ Some made
  pub named : name_in bytes ≡ Some name

-- there are no bytes where there is no report, and else its bytes
abbrev pub Spell : List ℕ → Option Report → Option (Vec ℕ Global) → Type 0
Spell name honest None = honest ≡ None
Spell name honest (Some v) = AreBytesOf name honest v.items
