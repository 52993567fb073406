use Rattle.batch_shards.proofs.Tallies.{tally-push}
use Rattle.batch_shards.proofs.laws.a_bucket_is_that_of_its_reports.Goals as goal

pub returns-clause-added : goal.returns-clause-added
returns-clause-added g c reports rejected closed r are_outs is_out = tally-push (g.met.V.Vdaf.laws c.args.vdaf.now).space reports rejected closed r is_out
