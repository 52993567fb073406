use Rattle.dap_bytes.specs.SpanLaws.{shares_bucket-comm, shares_bucket-from, shares_bucket-to}
use Rattle.dap_bytes.proofs.laws.batches_share_what_is_in_both.Goals as goal

pub returns-clause-both : goal.returns-clause-both
returns-clause-both c a b precision some_a some_b = (shares_bucket-to a b precision some_a.0 some_b.0, shares_bucket-from a b precision)

pub returns-clause-turned : goal.returns-clause-turned
returns-clause-turned c = shares_bucket-comm
