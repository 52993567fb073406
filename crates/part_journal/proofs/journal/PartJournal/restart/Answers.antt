use Rattle.std.proofs.Common.{sym, subst}
use Rattle.part_journal.specs.Came.{Came}
use Rattle.part_journal.specs.CameLaws.{came_back, came_same, came_under_way}
use Rattle.part_journal.specs.Pages.{Pages}
use Rattle.part_journal.proofs.Again.{back_behind, way_behind}
use Rattle.part_journal.proofs.Maps.{either_way, on_err}
use Rattle.part_journal.proofs.journal.PartJournal.restart.Goals as goal

pub returns-in-Ok-clause-err : goal.returns-in-Ok-clause-err
returns-in-Ok-clause-err g c =
    let w = c.in-Ok.ensures.ok in
    on_err c.reopen_through.result
    (λ e. (e.0, way_behind c.args.self.now.opener c.wake.new.self.opener c.args.self.now.pages c.wake.new.self.pages c.reopen_through.new.self.pages w.0 c.wake.ensures.same.0 w.1 e.1))
    c.reopen_through.ensures.err

pub returns-in-Ok-clause-came : goal.returns-in-Ok-clause-came
returns-in-Ok-clause-came g c =
    let w = c.in-Ok.ensures.ok in
    let x = c.args.self.now.opener in
    let p = c.args.self.now.pages in
    let q = c.reopen_through.new.self.pages in
    either_way c.reopen_through.result
    (λ o. came_back x w.0 p q c.up-up.ensures.idle (back_behind x c.wake.new.self.opener p c.wake.new.self.pages q w.0 c.wake.ensures.same.0 w.1 o.1))
    (λ e. came_under_way x p q c.up-up.ensures.idle (way_behind x c.wake.new.self.opener p c.wake.new.self.pages q w.0 c.wake.ensures.same.0 w.1 e.1))
    c.reopen_through.ensures.ok c.reopen_through.ensures.err

pub returns-in-Err-clause-came : goal.returns-in-Err-clause-came
returns-in-Err-clause-came g c =
    subst (λ (q : Pages g.row.R.Denot). Came c.args.self.now.opener c.args.self.now.pages q) (sym c.in-Err.ensures.err) (came_same c.args.self.now.opener c.args.self.now.pages c.up-up.ensures.idle)
