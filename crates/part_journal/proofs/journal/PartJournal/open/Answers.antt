use Rattle.std.proofs.Common.{subst}
use Rattle.part_journal.specs.CameLaws.{came_first}
use Rattle.part_journal.specs.Pages.{Pages, IsBack, reopening}
use Rattle.part_journal.proofs.journal.PartJournal.open.Goals as goal

pub returns-in-Ok-clause-came : goal.returns-in-Ok-clause-came
returns-in-Ok-clause-came g c =
    let x = c.args.opener in
    let q = c.reopen_through.new.self.pages in
    came_first x c.args.records.items q
    (subst (λ (p : Pages g.row.R.Denot). IsBack x (reopening x p) q) c.new.ensures c.in-Ok.ensures.ok.1)
