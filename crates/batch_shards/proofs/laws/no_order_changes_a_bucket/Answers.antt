use Rattle.batch_shards.proofs.Tallies.{tally-middle}
use Rattle.batch_shards.proofs.laws.no_order_changes_a_bucket.Goals as goal

pub returns : goal.returns
returns g c before after r rejected closed = tally-middle (g.met.V.Vdaf.laws c.args.vdaf.now).space before after r rejected closed
