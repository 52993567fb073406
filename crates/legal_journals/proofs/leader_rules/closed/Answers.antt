use Rattle.std.proofs.Common.{is_some, ap, ◌∙◌}
use Rattle.legal_journals.specs.LaneTests.{leader_closes}
use Rattle.legal_journals.proofs.Firsts.{place_of-any}
use Rattle.legal_journals.proofs.leader_rules.closed.Goals as goal

pub returns : goal.returns
returns c = c.is_some.ensures ∙ ap is_some (c.closed.ensures c.args.earlier.now c.requires) ∙ place_of-any (leader_closes c.args.name.now c.args.start) c.args.earlier.now
