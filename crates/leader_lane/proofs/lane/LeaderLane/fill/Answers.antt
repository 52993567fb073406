use Rattle.std.proofs.Common.{◌<◌, ℕ, Ok, sym, subst, ap, ◌∙◌, refl, IsTrue, drop}
use Rattle.leader_lane.specs.Book.{BookView}
use Rattle.leader_lane.proofs.CallLaws.{goes_none, goes_then, fills_none, fills_more, rest_more}
use Rattle.leader_lane.proofs.lane.LeaderLane.fill.Goals as goal

pub taking-init : goal.taking-init
taking-init g c = record { goes = goes_none g.D.Disk.downs g.D.Disk.deads c.args.self.now; part = refl; stopped = refl; up = c.requires.up; took = fills_none g.D.Disk.downs g.D.Disk.deads c.args.most c.args.self.now; rest = refl }

pub taking-preserved : goal.taking-preserved
taking-preserved g c =
    let i = c.taking.invariant in
    let t = c.in-Ok-true.ensures.took (ap Ok c.in-Ok-true.field-0-test) in
    record {
      goes = goes_then g.D.Disk.downs g.D.Disk.deads c.args.self.now c.taking.self c.take_one.new.self i.goes c.take_one.ensures.goes;
      part = c.take_one.ensures.part.0 ∙ i.part;
      stopped = c.take_one.ensures.part.1 ∙ i.stopped;
      up = subst (λ (p : _). IsTrue p.up) (sym c.take_one.ensures.part.0) i.up;
      took = fills_more g.D.Disk.downs g.D.Disk.deads c.args.self.now c.taking.self c.take_one.new.self i.took.0 t.0 i.took.1 i.took.2 t.1 t.2;
      rest = rest_more c.args.most c.args.self.now.book.hand c.taking.self.book c.take_one.new.self.book t.0 (subst (λ (n : ℕ). n < c.args.most) c.hand_len.ensures c.taking-test.true) i.rest t.1;
    }

pub returns-in-Ok-false-clause-goes : goal.returns-in-Ok-false-clause-goes
returns-in-Ok-false-clause-goes g c = goes_then g.D.Disk.downs g.D.Disk.deads c.args.self.now c.taking.self c.take_one.new.self c.taking.invariant.goes c.take_one.ensures.goes

pub returns-in-Err-clause-goes : goal.returns-in-Err-clause-goes
returns-in-Err-clause-goes g c = goes_then g.D.Disk.downs g.D.Disk.deads c.args.self.now c.taking.self c.take_one.new.self c.taking.invariant.goes c.take_one.ensures.goes

pub returns-in-Ok-false-clause-fills : goal.returns-in-Ok-false-clause-fills
returns-in-Ok-false-clause-fills g c =
    let i = c.taking.invariant in
    let n = c.in-Ok-false.ensures.none (ap Ok c.in-Ok-false.field-0-test) in
    record {
      took = (i.took.0, n.0 ∙ i.took.1, n.1 ∙ i.took.2);
      rest = ap (λ (b : BookView). drop c.args.most b.hand) n.0 ∙ i.rest;
      all = λ few. n.2;
    }
