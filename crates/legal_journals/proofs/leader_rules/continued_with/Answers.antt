use Rattle.std.proofs.Common.{sym, ◌∙◌}
use Rattle.legal_journals.proofs.LeaderLegal.{with_place, without_one, has_place}
use Rattle.legal_journals.proofs.leader_rules.continued_with.Goals as goal

pub returns-in_default : goal.returns-in_default
returns-in_default c = without_one c.args.job.now c.args.outcomes.now c.args.earlier.now (sym (c.job.ensures c.args.earlier.now c.requires.indexed) ∙ c.in_default.is)

pub returns-in_default-get : goal.returns-in_default-get
returns-in_default-get c =
    absurd (has_place c.args.job.now c.args.earlier.now c.in-Some.place (sym (c.job.ensures c.args.earlier.now c.requires.indexed) ∙ c.in-Some.is) c.in_default-get.ensures.lookup.0)

pub returns : goal.returns
returns c =
    c.continue_has.ensures
    ∙ with_place c.args.lane c.args.job.now c.args.outcomes.now c.args.earlier.now c.in-Some.place c.in-Some-get.x.now c.requires.legal
    (sym (c.job.ensures c.args.earlier.now c.requires.indexed) ∙ c.in-Some.is) c.in-Some-get.ensures.lookup.1
