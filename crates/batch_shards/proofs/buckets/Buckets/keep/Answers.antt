use Rattle.batch_shards.proofs.Kept.{written}
use Rattle.batch_shards.proofs.buckets.Buckets.keep.Goals as goal

pub returns-in-Ok-clause-ok : goal.returns-in-Ok-clause-ok
returns-in-Ok-clause-ok c =
    written c.self.inside.buckets.entries c.insert.new.self.entries c.args.self.now c.args.name.now c.args.start c.args.bucket c.self.view_is c.in-Ok.ensures.updates.0
