use Rattle.std.proofs.Common.{◌++◌, is_some, ap, ◌∙◌}
use Rattle.leader_lane.proofs.FoundLaws.{closed_found}
use Rattle.leader_lane.proofs.catalog.Catalog.is_closed.Goals as goal

pub returns : goal.returns
returns c records block h =
    c.is_some.ensures ∙ ap is_some (c.closed.ensures (records ++ block) h.indexed) ∙ closed_found c.args.name.now c.args.start (records ++ block)
