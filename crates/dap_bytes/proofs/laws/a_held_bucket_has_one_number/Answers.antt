use Rattle.dap_bytes.specs.SpanLaws.{bucket_at-same, holds_bucket-from, holds_bucket-to}
use Rattle.dap_bytes.proofs.laws.a_held_bucket_has_one_number.Goals as goal

pub returns-clause-numbered : goal.returns-clause-numbered
returns-clause-numbered c span precision start = (holds_bucket-to span precision start, holds_bucket-from span precision start)

pub returns-clause-one : goal.returns-clause-one
returns-clause-one c = bucket_at-same
