use Rattle.batch_shards.proofs.Kept.{bucket_of-changed, bucket_of-other}
use Rattle.batch_shards.proofs.laws.a_change_is_of_one_batch.Goals as goal

pub returns-clause-changed : goal.returns-clause-changed
returns-clause-changed c kept name start b = bucket_of-changed kept name start b

pub returns-clause-others : goal.returns-clause-others
returns-clause-others c kept name other start later b apart = bucket_of-other kept name other start later b apart
