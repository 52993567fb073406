use Rattle.std.proofs.Common.{◌≡◌, inl, inr, ⊎_elim, ◌<◌, Bool, Ok, ap, sym, ◌∙◌, subst, arith}
use Rattle.std.specs.Prelude.{IsTrue}
use Rattle.part_journal.specs.Pages.{Pages, settled, reopening, reopened}
use Rattle.part_journal.proofs.Again.{Tried, tried_back, tried_more, tried_stopped, settled_told, settled_empty}
use Rattle.part_journal.proofs.Counted.{stop_behind, wake_behind}
use Rattle.part_journal.specs.CountsLaws.{borne_all}
use Rattle.part_journal.proofs.journal.PartJournal.reopen_through.Goals as goal

pub returns-in-Ok-Done-clause-ok : goal.returns-in-Ok-Done-clause-ok
returns-in-Ok-Done-clause-ok g c =
    let d = c.in-Ok-Done.ensures.done (ap Ok c.in-Ok-Done.field-0-is) in
    let i = c.tries.invariant in (
      d.1,
      tried_back c.args.self.now.opener c.args.self.now.pages c.tries.self.pages c.reopen.new.self.pages i.pages
          (d.0 ∙ ap (λ (x : g.row.R.Denot). reopened (reopening x c.tries.self.pages)) i.same.0),
    )

pub returns-then-left-eq0-clause-err : goal.returns-then-left-eq0-clause-err
returns-then-left-eq0-clause-err g c =
    let d = c.in-Ok-Stop.ensures.stop (ap Ok c.in-Ok-Stop.field-0-is) in
    let i = c.tries.invariant in (
      d.1,
      tried_stopped c.args.self.now.opener c.args.self.now.pages c.tries.self.pages c.reopen.new.self.pages i.pages
          (d.0 ∙ ap (λ (x : g.row.R.Denot). reopening x c.tries.self.pages) i.same.0),
    )

pub returns-in-Err-wake-clause-err : goal.returns-in-Err-wake-clause-err
returns-in-Err-wake-clause-err g c =
    let d = c.in-Ok-Stop.ensures.stop (ap Ok c.in-Ok-Stop.field-0-is) in
    let i = c.tries.invariant in (
      c.wake.ensures.down,
      tried_stopped c.args.self.now.opener c.args.self.now.pages c.tries.self.pages c.wake.new.self.pages i.pages
          (c.in-Err-wake.ensures.err ∙ d.0 ∙ ap (λ (x : g.row.R.Denot). reopening x c.tries.self.pages) i.same.0),
    )

pub tries-preserved : goal.tries-preserved
tries-preserved g c =
    let d = c.in-Ok-Stop.ensures.stop (ap Ok c.in-Ok-Stop.field-0-is) in
    let i = c.tries.invariant in
    let w = c.in-Ok.ensures.ok in
    let opener = c.args.self.now.opener in
    let was = d.0 ∙ ap (λ (x : g.row.R.Denot). reopening x c.tries.self.pages) i.same.0 in
    let now : c.wake.new.self.pages ≡ settled w.0 (reopening opener c.tries.self.pages) = w.1 ∙ ap (λ (p : Pages g.row.R.Denot). settled w.0 p) was in
    let some : 0 < c.reopen.new.self.left = omega (arith, c.left.ensures, c.if-left-eq0.false) in
    let bore = borne_all g.D.Disk.downs g.D.Disk.deads _ _ _ _ _ (λ e. absurd (cc e)) c.in-Ok.ensures.counts in
    let before = stop_behind g.D.Disk.downs g.D.Disk.deads _ ⊥ c.args.self.now.left c.tries.self.left c.reopen.new.self.left c.args.self.now.disk c.tries.self.disk c.reopen.new.self.disk
    i.counts c.in-Ok-Stop.ensures.counts (ap Ok c.in-Ok-Stop.field-0-is) (inr some) (λ e. absurd e) i.some d.2 in
    record {
      pages = subst (λ (p : Pages g.row.R.Denot). Tried opener c.args.self.now.pages p) (sym now) (tried_more opener c.args.self.now.pages c.tries.self.pages w.0 i.pages);
      down = c.wake.ensures.down;
      woken = c.in-Ok.ensures.woken;
      block = ap (λ (p : Pages g.row.R.Denot). p.block) now ∙ settled_empty w.0 (reopening opener c.tries.self.pages);
      fate = λ e. settled_told w.0 (reopening opener c.tries.self.pages) (sym (ap (λ (p : Pages g.row.R.Denot). p.fate) now) ∙ e);
      some = ⊎_elim (λ e. absurd e) (λ s. s) bore.borne;
      dead = (
        (λ s. i.dead.0 (subst (λ (b : Bool). IsTrue b) c.reopen.ensures.dead (⊎_elim (λ a. a) (λ b. absurd (cc b.0)) (c.in-Ok.ensures.dead.0 s)))),
        (λ s. c.in-Ok.ensures.dead.1 (inl (subst (λ (b : Bool). IsTrue b) (sym c.reopen.ensures.dead) (i.dead.1 s)))),
      );
      same = (c.wake.ensures.same.0 ∙ c.reopen.ensures.same.0 ∙ i.same.0, c.wake.ensures.same.1 ∙ c.reopen.ensures.same.1 ∙ i.same.1);
      counts = wake_behind g.D.Disk.downs g.D.Disk.deads ⊥ c.args.self.now.left c.reopen.new.self.left c.wake.new.self.left c.args.self.now.disk c.reopen.new.self.disk c.wake.new.self.disk
          before bore some;
    }
