use Rattle.std.proofs.Common.{is_some, ap, ◌∙◌}
use Rattle.legal_journals.specs.LaneTests.{accepts}
use Rattle.legal_journals.proofs.Firsts.{place_of-any}
use Rattle.legal_journals.proofs.leader_rules.accepted.Goals as goal

pub returns : goal.returns
returns c = c.is_some.ensures ∙ ap is_some (c.accepted.ensures c.args.earlier.now c.requires) ∙ place_of-any (accepts c.args.name.now c.args.id.now) c.args.earlier.now
