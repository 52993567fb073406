use Rattle.std.proofs.Common.{sym, ap, ◌∙◌}
use Rattle.legal_journals.specs.HistoryTests.{puts_into}
use Rattle.legal_journals.proofs.Lanes.{of_lane}
use Rattle.legal_journals.proofs.opens.Opens.is_of_lane.Goals as goal

pub returns : goal.returns
returns c = c.puts_into.ensures ∙ ap (puts_into c.args.lane c.args.id.now) c.requires.opened.lanes ∙ sym (of_lane c.args.lane c.args.id.now c.args.earlier.now c.requires.numbered)
