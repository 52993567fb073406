use Rattle.std.proofs.Common.{Err, ⊎_elim, ap, ◌∙◌, arith}
use Rattle.dap_disk.specs.RunLaws.{then}
use Rattle.report_journal.specs.Retry.{WithOrWithout}
use Rattle.report_journal.specs.RetryLaws.{same_run}
use Rattle.report_journal.proofs.log.Log.restart_through.Goals as goal

pub returns-in-Ok-clause-any_moment : goal.returns-in-Ok-clause-any_moment
returns-in-Ok-clause-any_moment g c =
    let inv = c.tries.invariant in
    inv.goes c.restart.new.self.disk
    (same_run g.D.Disk.moment g.D.Disk.left_since c.tries.self.disk c.restart.new.self.disk c.args.self.now.records c.args.self.now.coming c.tries.self.records c.tries.self.coming
    inv.records inv.coming c.restart.ensures.any_moment)

pub returns-in-Err-Dead-clause-any_moment : goal.returns-in-Err-Dead-clause-any_moment
returns-in-Err-Dead-clause-any_moment g c =
    let inv = c.tries.invariant in
    inv.goes c.restart.new.self.disk
    (same_run g.D.Disk.moment g.D.Disk.left_since c.tries.self.disk c.restart.new.self.disk c.args.self.now.records c.args.self.now.coming c.tries.self.records c.tries.self.coming
    inv.records inv.coming c.restart.ensures.any_moment)

pub returns-then-left-eq0-clause-any_moment : goal.returns-then-left-eq0-clause-any_moment
returns-then-left-eq0-clause-any_moment g c =
    let inv = c.tries.invariant in
    inv.goes c.restart.new.self.disk
    (same_run g.D.Disk.moment g.D.Disk.left_since c.tries.self.disk c.restart.new.self.disk c.args.self.now.records c.args.self.now.coming c.tries.self.records c.tries.self.coming
    inv.records inv.coming c.restart.ensures.any_moment)

pub tries-preserved : goal.tries-preserved
tries-preserved g c =
    let inv = c.tries.invariant in
    let same = c.in-Err-Down.ensures.same in
    let stops = c.restart.ensures.counts.stops in
    let rose = c.in-Err-Down.ensures.counts.stops.answered (ap Err c.in-Err-Down.field-0-is) in
    let run = same_run g.D.Disk.moment g.D.Disk.left_since c.tries.self.disk c.restart.new.self.disk c.args.self.now.records c.args.self.now.coming c.tries.self.records c.tries.self.coming
    inv.records inv.coming c.restart.ensures.any_moment in
    record {
      some = omega (arith, inv.some, c.if-left-eq0.false);
      left = omega (arith, inv.left);
      downs = record {
        never_falls = omega (arith, inv.downs.never_falls, stops.never_falls);
        rises_by_each = omega (arith, inv.downs.rises_by_each, inv.some, inv.left, rose);
        rises_by_no_more = omega (arith, inv.downs.rises_by_no_more, inv.some, inv.left, stops.rises_by_one_at_most);
      };
      deads = ⊎_elim (λ dead. absurd (cc)) (λ same. same ∙ inv.deads) c.restart.ensures.counts.deaths.calm;
      records = same.1 ∙ inv.records;
      coming = same.2 ∙ inv.coming;
      goes = λ w rest. inv.goes w (then g.D.Disk.moment g.D.Disk.left_since c.tries.self.disk c.restart.new.self.disk w (WithOrWithout c.args.self.now.records c.args.self.now.coming) run rest);
    }
