use Rattle.dap_bytes.specs.SpanLaws.{passed_buckets}
use Rattle.dap_bytes.proofs.laws.buckets_begin_at_times.Goals as goal

pub returns : goal.returns
returns c = passed_buckets
