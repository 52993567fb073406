use Rattle.std.proofs.Common.{◌≡◌, inl, inr, Ok, Err, refl, ap, ◌∙◌, arith}
use Rattle.part_journal.specs.CameLaws.{begun_idle, came_back, came_refused, came_under_way}
use Rattle.part_journal.specs.CountsLaws.{stops_none}
use Rattle.part_journal.specs.Pages.{Pages, begun, settled}
use Rattle.part_journal.proofs.Again.{back_behind, way_behind}
use Rattle.part_journal.proofs.Counted.{calm_behind, stop_behind}
use Rattle.part_journal.proofs.journal.PartJournal.append.Goals as goal

pub returns-in-Ok-Done-clause-counts : goal.returns-in-Ok-Done-clause-counts
returns-in-Ok-Done-clause-counts g c =
    let d = c.in-Ok-Done.ensures.done (ap Ok c.in-Ok-Done.field-0-is) in
    let some = (c.up-up.ensures.rest c.requires.up).borne in
    let n = c.args.self.now.left in
    let x = c.args.self.now.disk in
    calm_behind g.D.Disk.downs g.D.Disk.deads _ _ n n c.put.new.self.left x x c.put.new.self.disk (stops_none g.D.Disk.downs g.D.Disk.deads n x some) c.in-Ok-Done.ensures.counts
    (λ e. absurd (cc (e, c.in-Ok-Done.field-0-is))) (λ e. absurd (cc e)) some d.1

pub returns-in-Err-clause-counts : goal.returns-in-Err-clause-counts
returns-in-Err-clause-counts g c =
    let some = (c.up-up.ensures.rest c.requires.up).borne in
    let n = c.args.self.now.left in
    let x = c.args.self.now.disk in
    calm_behind g.D.Disk.downs g.D.Disk.deads _ _ n n c.put.new.self.left x x c.put.new.self.disk (stops_none g.D.Disk.downs g.D.Disk.deads n x some) c.in-Err.ensures.counts
    (λ e. absurd (cc e)) (λ e. absurd (c.in-Err.ensures.memory (ap Err (cc e)))) some c.in-Err.ensures.err.1

pub returns-then-left-eq0-clause-counts : goal.returns-then-left-eq0-clause-counts
returns-then-left-eq0-clause-counts g c =
    let d = c.in-Ok-Stop.ensures.stop (ap Ok c.in-Ok-Stop.field-0-is) in
    let some = (c.up-up.ensures.rest c.requires.up).borne in
    let n = c.args.self.now.left in
    let x = c.args.self.now.disk in
    let none : c.put.new.self.left ≡ 0 = omega (arith, c.left.ensures, c.if-left-eq0.true) in
    stop_behind g.D.Disk.downs g.D.Disk.deads _ _ n n c.put.new.self.left x x c.put.new.self.disk (stops_none g.D.Disk.downs g.D.Disk.deads n x some) c.in-Ok-Stop.ensures.counts
    (ap Ok c.in-Ok-Stop.field-0-is) (inl refl) (λ e. none) some d.2

pub returns-in-Err-clause-came : goal.returns-in-Err-clause-came
returns-in-Err-clause-came g c =
    came_refused c.args.self.now.opener c.args.block.items c.args.self.now.pages c.put.new.self.pages (c.up-up.ensures.rest c.requires.up).block c.in-Err.ensures.err.2

pub returns-in-Ok-reopen_through-clause-came : goal.returns-in-Ok-reopen_through-clause-came
returns-in-Ok-reopen_through-clause-came g c =
    let d = c.in-Ok-Stop.ensures.stop (ap Ok c.in-Ok-Stop.field-0-is) in
    let w = c.in-Ok.ensures.ok in
    let x = c.args.self.now.opener in
    let b : Pages g.row.R.Denot = begun c.args.block.items c.args.self.now.pages in
    let q = c.reopen_through.new.self.pages in
    came_back x w.0 b q (begun_idle x c.args.block.items c.args.self.now.pages)
    (back_behind x c.wake.new.self.opener b c.wake.new.self.pages q w.0 (c.wake.ensures.same.0 ∙ c.put.ensures.same.0) (w.1 ∙ ap (λ (p : Pages g.row.R.Denot). settled w.0 p) d.0) c.in-Ok-reopen_through.ensures.ok.1)

pub returns-in-Ok-2-clause-came : goal.returns-in-Ok-2-clause-came
returns-in-Ok-2-clause-came g c =
    let d = c.in-Ok-Stop.ensures.stop (ap Ok c.in-Ok-Stop.field-0-is) in
    let w = c.in-Ok.ensures.ok in
    let x = c.args.self.now.opener in
    let b : Pages g.row.R.Denot = begun c.args.block.items c.args.self.now.pages in
    let q = c.reopen_through.new.self.pages in
    came_back x w.0 b q (begun_idle x c.args.block.items c.args.self.now.pages)
    (back_behind x c.wake.new.self.opener b c.wake.new.self.pages q w.0 (c.wake.ensures.same.0 ∙ c.put.ensures.same.0) (w.1 ∙ ap (λ (p : Pages g.row.R.Denot). settled w.0 p) d.0) c.in-Ok-2.ensures.ok.1)

pub returns-in-Err-reopen_through-clause-memory : goal.returns-in-Err-reopen_through-clause-memory
returns-in-Err-reopen_through-clause-memory g c =
    let d = c.in-Ok-Stop.ensures.stop (ap Ok c.in-Ok-Stop.field-0-is) in
    let w = c.in-Ok.ensures.ok in
    let x = c.args.self.now.opener in
    let b : Pages g.row.R.Denot = begun c.args.block.items c.args.self.now.pages in
    let e = c.in-Err-reopen_through.ensures.err in
    λ _. inr (
      e.0,
      way_behind x c.wake.new.self.opener b c.wake.new.self.pages c.reopen_through.new.self.pages w.0
          (c.wake.ensures.same.0 ∙ c.put.ensures.same.0) (w.1 ∙ ap (λ (p : Pages g.row.R.Denot). settled w.0 p) d.0) e.1,
    )

pub returns-in-Err-reopen_through-clause-stopped :
    goal.returns-in-Err-reopen_through-clause-stopped
returns-in-Err-reopen_through-clause-stopped g c =
    let d = c.in-Ok-Stop.ensures.stop (ap Ok c.in-Ok-Stop.field-0-is) in
    let w = c.in-Ok.ensures.ok in
    let x = c.args.self.now.opener in
    let b : Pages g.row.R.Denot = begun c.args.block.items c.args.self.now.pages in
    let e = c.in-Err-reopen_through.ensures.err in
    λ _. (
      e.0,
      way_behind x c.wake.new.self.opener b c.wake.new.self.pages c.reopen_through.new.self.pages w.0
          (c.wake.ensures.same.0 ∙ c.put.ensures.same.0) (w.1 ∙ ap (λ (p : Pages g.row.R.Denot). settled w.0 p) d.0) e.1,
    )

pub returns-in-Err-reopen_through-clause-came : goal.returns-in-Err-reopen_through-clause-came
returns-in-Err-reopen_through-clause-came g c =
    let d = c.in-Ok-Stop.ensures.stop (ap Ok c.in-Ok-Stop.field-0-is) in
    let w = c.in-Ok.ensures.ok in
    let x = c.args.self.now.opener in
    let b : Pages g.row.R.Denot = begun c.args.block.items c.args.self.now.pages in
    let q = c.reopen_through.new.self.pages in
    came_under_way x b q (begun_idle x c.args.block.items c.args.self.now.pages)
    (way_behind x c.wake.new.self.opener b c.wake.new.self.pages q w.0 (c.wake.ensures.same.0 ∙ c.put.ensures.same.0) (w.1 ∙ ap (λ (p : Pages g.row.R.Denot). settled w.0 p) d.0)
    c.in-Err-reopen_through.ensures.err.1)
