use Rattle.std.proofs.Common.{◌++◌}
use Rattle.leader_lane.proofs.catalog.Catalog.accepted.Goals as goal

pub returns : goal.returns
returns c records block h = c.accepted.ensures (records ++ block) h.indexed
