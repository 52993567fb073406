use Rattle.std.proofs.Common.{ap, ◌∙◌}
use Rattle.std.specs.FinMap as map
use Rattle.batch_shards.specs.Batches.{bucket_of, batch_order}
use Rattle.batch_shards.proofs.Kept.{bucket_of-empty}
use Rattle.batch_shards.proofs.buckets.Buckets.new.Goals as goal

pub returns-clause-holds_nothing : goal.returns-clause-holds_nothing
returns-clause-holds_nothing c name start =
    ap (λ es. bucket_of (map.from_entries {R = batch_order} es) name start) c.new.ensures.empty ∙ bucket_of-empty name start
