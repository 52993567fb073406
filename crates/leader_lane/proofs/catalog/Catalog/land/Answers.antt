use Rattle.std.proofs.Common.{refl}
use Rattle.leader_lane.proofs.CatalogLaws.{lists_landed}
use Rattle.leader_lane.proofs.catalog.Catalog.land.Goals as goal

pub returns : goal.returns
returns c records block h = lists_landed c.args.self.now (record c.args.self.now { entered = c.clear.new.self }) records block refl c.clear.ensures.items h
