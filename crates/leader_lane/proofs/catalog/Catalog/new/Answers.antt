use Rattle.std.proofs.Common.{[], refl}
use Rattle.leader_lane.proofs.catalog.Catalog.new.Goals as goal

pub returns : goal.returns
returns c = record { indexed = c.new.ensures; keys = ([], refl, c.new-2.ensures.items) }
