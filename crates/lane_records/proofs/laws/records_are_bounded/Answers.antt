use Rattle.std.proofs.Common.{arith}
use Rattle.lane_records.specs.RecordLaws.{record_lawful}
use Rattle.lane_records.proofs.laws.records_are_bounded.Goals as goal

pub returns-clause-bounded : goal.returns-clause-bounded
returns-clause-bounded c = record_lawful.within

pub returns-clause-appended : goal.returns-clause-appended
returns-clause-appended c = λ x a. omega (arith, record_lawful.within x a)
