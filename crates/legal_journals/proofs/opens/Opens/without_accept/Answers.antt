use Rattle.legal_journals.proofs.Counts.{accept_less}
use Rattle.legal_journals.proofs.opens.Opens.without_accept.Goals as goal

pub returns : goal.returns
returns c records r h = accept_less c.args.self records r c.saturating_sub.result c.saturating_sub.ensures h
