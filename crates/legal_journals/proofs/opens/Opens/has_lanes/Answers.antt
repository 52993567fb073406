use Rattle.std.proofs.Common.{sym, ap, ◌∙◌}
use Rattle.legal_journals.specs.HistoryTests.{is_none_but}
use Rattle.std.specs.List.{list_all}
use Rattle.legal_journals.specs.History.{lanes_in}
use Rattle.legal_journals.proofs.Lanes.{none_but, within}
use Rattle.legal_journals.proofs.opens.Opens.has_lanes.Goals as goal

pub returns-then-lanes-le-MOST_LANES : goal.returns-then-lanes-le-MOST_LANES
returns-then-lanes-le-MOST_LANES c =
    c.is_none_but.ensures ∙ ap (is_none_but c.args.lanes) c.requires.opened.lanes ∙ sym (none_but c.args.lanes c.args.earlier.now c.requires.numbered)
    ∙ sym (within c.args.lanes (list_all (λ x. is_none_but c.args.lanes (lanes_in x)) c.args.earlier.now) c.if-lanes-le-MOST_LANES.true.0 c.if-lanes-le-MOST_LANES.true.1)
