use Rattle.dap_bytes.specs.SpanLaws.{shares_bucket-one}
use Rattle.dap_bytes.proofs.laws.single_buckets_are_shared_where_equal.Goals as goal

pub returns : goal.returns
returns c = shares_bucket-one
