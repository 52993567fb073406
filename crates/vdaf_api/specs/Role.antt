-- The two aggregators of a report.
use Rattle.std.specs.Prelude.{ℕ}
use Rattle.vdaf_api.specs.declared.role.Role.{Role}
use Rattle.vdaf_api.specs.declared.role.Role.TheVariants.{Leader, Helper}

-- the byte that stands for an aggregator
abbrev pub role_byte : Role → ℕ
role_byte Leader = 0
role_byte Helper = 1
