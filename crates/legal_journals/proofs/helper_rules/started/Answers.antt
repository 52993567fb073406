use Rattle.std.proofs.Common.{is_some, ap, ◌∙◌}
use Rattle.legal_journals.specs.LaneTests.{starts_job}
use Rattle.legal_journals.proofs.Firsts.{place_of-any}
use Rattle.legal_journals.proofs.helper_rules.started.Goals as goal

pub returns : goal.returns
returns c = c.is_some.ensures ∙ ap is_some (c.started.ensures c.args.earlier.now c.requires.indexed) ∙ place_of-any (starts_job c.args.job.now) c.args.earlier.now
