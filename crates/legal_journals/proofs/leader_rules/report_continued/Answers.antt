use Rattle.std.proofs.Common.{is_some, ap, ◌∙◌}
use Rattle.legal_journals.specs.LaneTests.{continues_report}
use Rattle.legal_journals.proofs.Firsts.{place_of-any}
use Rattle.legal_journals.proofs.leader_rules.report_continued.Goals as goal

pub returns : goal.returns
returns c = c.is_some.ensures ∙ ap is_some (c.continued.ensures c.args.earlier.now c.requires) ∙ place_of-any (continues_report c.args.name.now c.args.id.now) c.args.earlier.now
