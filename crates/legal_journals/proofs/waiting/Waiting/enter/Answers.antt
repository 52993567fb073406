use Rattle.legal_journals.proofs.Results.{map_ok}
use Rattle.legal_journals.proofs.Waits.{entered}
use Rattle.legal_journals.proofs.waiting.Waiting.enter.Goals as goal

pub returns-clause-ok : goal.returns-clause-ok
returns-clause-ok g c =
    map_ok c.enter.result c.enter.ensures.ok (λ enters of settled records r h named same last free.
    entered g.met.G.Ord.total of settled c.args.self.now (record { reports = c.enter.new.self }) records r c.args.group c.args.place c.args.id.now h named same last free enters)
