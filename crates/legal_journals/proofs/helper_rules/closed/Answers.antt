use Rattle.std.proofs.Common.{is_some, ap, ◌∙◌}
use Rattle.legal_journals.specs.LaneTests.{helper_closes}
use Rattle.legal_journals.proofs.Firsts.{place_of-any}
use Rattle.legal_journals.proofs.helper_rules.closed.Goals as goal

pub returns : goal.returns
returns c = c.is_some.ensures ∙ ap is_some (c.closed.ensures c.args.earlier.now c.requires.indexed) ∙ place_of-any (helper_closes c.args.name.now c.args.start) c.args.earlier.now
