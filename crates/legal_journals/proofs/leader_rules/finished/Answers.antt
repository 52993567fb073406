use Rattle.std.proofs.Common.{is_some, ap, ◌∙◌}
use Rattle.legal_journals.specs.LaneTests.{finishes_job}
use Rattle.legal_journals.proofs.Firsts.{place_of-any}
use Rattle.legal_journals.proofs.leader_rules.finished.Goals as goal

pub returns : goal.returns
returns c = c.is_some.ensures ∙ ap is_some (c.finished.ensures c.args.earlier.now c.requires) ∙ place_of-any (finishes_job c.args.job.now) c.args.earlier.now
