use Rattle.std.proofs.Common.{◌≡◌, Result, Ok, Err, sym, ap, ◌∙◌, refl}
use Rattle.lane_records.specs.declared.place.LaneFault.{LaneFault}
use Rattle.lane_records.specs.declared.place.LaneFault.TheVariants.{Stopped as LaneStopped}
use Rattle.part_journal.specs.CountsLaws.{stops_none}
use Rattle.part_journal.specs.declared.fault.Appended.TheVariants.{Done, Kept, Lost}
use Rattle.leader_lane.proofs.CallLaws.{goes_none, goes_then, judged_from, counts_after, ok_runs, calm_told, err_as}
use Rattle.leader_lane.proofs.lane.LeaderLane.judge_hand.Goals as goal

pub tries-init : goal.tries-init
tries-init g c = record {
  goes = goes_none g.D.Disk.downs g.D.Disk.deads c.args.self.now;
  up = c.requires.up;
  hand = refl;
  answers = refl;
  front = refl;
  counts = stops_none g.D.Disk.downs g.D.Disk.deads c.args.self.now.part.left c.args.self.now.part.disk (c.up-up.ensures.rest c.requires.up).borne;
}

pub tries-preserved : goal.tries-preserved
tries-preserved g c =
    let i = c.tries.invariant in
    let is : c.judge_block.result ≡ Ok Lost = c.in-Ok-Lost.is ∙ ap Ok c.in-Ok-Lost.field-0-is in
    let l = c.in-Ok-Lost.ensures.lost (ap Ok c.in-Ok-Lost.field-0-is) in
    record {
      goes = goes_then g.D.Disk.downs g.D.Disk.deads c.args.self.now c.tries.self c.judge_block.new.self i.goes c.judge_block.ensures.goes;
      up = l.up;
      hand = l.hand ∙ i.hand;
      answers = l.answers ∙ i.answers;
      front = c.judge_block.ensures.front ∙ i.front;
      counts = counts_after g.D.Disk.downs g.D.Disk.deads (c.judge_block.result ≡ Err LaneStopped) ⊥ c.args.self.now.part c.tries.self.part c.judge_block.new.self.part i.counts
          (ok_runs c.judge_block.result Lost is) (λ e. absurd e) c.judge_block.ensures.counts;
    }

pub returns-in-Ok-Done-clause-goes : goal.returns-in-Ok-Done-clause-goes
returns-in-Ok-Done-clause-goes g c = goes_then g.D.Disk.downs g.D.Disk.deads c.args.self.now c.tries.self c.judge_block.new.self c.tries.invariant.goes c.judge_block.ensures.goes

pub returns-in-Ok-Kept-clause-goes : goal.returns-in-Ok-Kept-clause-goes
returns-in-Ok-Kept-clause-goes g c = goes_then g.D.Disk.downs g.D.Disk.deads c.args.self.now c.tries.self c.judge_block.new.self c.tries.invariant.goes c.judge_block.ensures.goes

pub returns-in-Err-clause-goes : goal.returns-in-Err-clause-goes
returns-in-Err-clause-goes g c = goes_then g.D.Disk.downs g.D.Disk.deads c.args.self.now c.tries.self c.judge_block.new.self c.tries.invariant.goes c.judge_block.ensures.goes

pub returns-in-Ok-Done-clause-ok : goal.returns-in-Ok-Done-clause-ok
returns-in-Ok-Done-clause-ok g c =
    judged_from g.D.Disk.downs g.D.Disk.deads c.args.judged c.args.self.now c.tries.self c.judge_block.new.self c.tries.invariant.hand c.tries.invariant.answers (c.in-Ok-Done.ensures.done (ap Ok c.in-Ok-Done.field-0-is))

pub returns-in-Ok-Kept-clause-ok : goal.returns-in-Ok-Kept-clause-ok
returns-in-Ok-Kept-clause-ok g c =
    judged_from g.D.Disk.downs g.D.Disk.deads c.args.judged c.args.self.now c.tries.self c.judge_block.new.self c.tries.invariant.hand c.tries.invariant.answers (c.in-Ok-Kept.ensures.kept (ap Ok c.in-Ok-Kept.field-0-is))

pub returns-in-Ok-Done-clause-counts : goal.returns-in-Ok-Done-clause-counts
returns-in-Ok-Done-clause-counts g c =
    let is : c.judge_block.result ≡ Ok Done = c.in-Ok-Done.is ∙ ap Ok c.in-Ok-Done.field-0-is in
    counts_after g.D.Disk.downs g.D.Disk.deads (c.judge_block.result ≡ Err LaneStopped) (let r : Result (Unit {0}) LaneFault = Ok tt in r ≡ Err LaneStopped) c.args.self.now.part c.tries.self.part c.judge_block.new.self.part c.tries.invariant.counts
    (λ e. absurd (ok_runs c.judge_block.result Done is e)) (λ e. absurd (ok_runs (let r : Result (Unit {0}) LaneFault = Ok tt in r) tt refl e)) c.judge_block.ensures.counts

pub returns-in-Ok-Done-clause-stopped : goal.returns-in-Ok-Done-clause-stopped
returns-in-Ok-Done-clause-stopped g c =
    let is : c.judge_block.result ≡ Ok Done = c.in-Ok-Done.is ∙ ap Ok c.in-Ok-Done.field-0-is in
    calm_told (let r : Result (Unit {0}) LaneFault = Ok tt in r) c.judge_block.new.self.stopped (λ h. ok_runs c.judge_block.result Done is (c.judge_block.ensures.stopped.0 h)) (ok_runs (let r : Result (Unit {0}) LaneFault = Ok tt in r) tt refl)

pub returns-in-Ok-Done-clause-front : goal.returns-in-Ok-Done-clause-front
returns-in-Ok-Done-clause-front g c =
    c.judge_block.ensures.front ∙ c.tries.invariant.front

pub returns-in-Ok-Kept-clause-counts : goal.returns-in-Ok-Kept-clause-counts
returns-in-Ok-Kept-clause-counts g c =
    let is : c.judge_block.result ≡ Ok Kept = c.in-Ok-Kept.is ∙ ap Ok c.in-Ok-Kept.field-0-is in
    counts_after g.D.Disk.downs g.D.Disk.deads (c.judge_block.result ≡ Err LaneStopped) (let r : Result (Unit {0}) LaneFault = Ok tt in r ≡ Err LaneStopped) c.args.self.now.part c.tries.self.part c.judge_block.new.self.part c.tries.invariant.counts
    (λ e. absurd (ok_runs c.judge_block.result Kept is e)) (λ e. absurd (ok_runs (let r : Result (Unit {0}) LaneFault = Ok tt in r) tt refl e)) c.judge_block.ensures.counts

pub returns-in-Ok-Kept-clause-stopped : goal.returns-in-Ok-Kept-clause-stopped
returns-in-Ok-Kept-clause-stopped g c =
    let is : c.judge_block.result ≡ Ok Kept = c.in-Ok-Kept.is ∙ ap Ok c.in-Ok-Kept.field-0-is in
    calm_told (let r : Result (Unit {0}) LaneFault = Ok tt in r) c.judge_block.new.self.stopped (λ h. ok_runs c.judge_block.result Kept is (c.judge_block.ensures.stopped.0 h)) (ok_runs (let r : Result (Unit {0}) LaneFault = Ok tt in r) tt refl)

pub returns-in-Ok-Kept-clause-front : goal.returns-in-Ok-Kept-clause-front
returns-in-Ok-Kept-clause-front g c =
    c.judge_block.ensures.front ∙ c.tries.invariant.front

pub returns-in-Err-clause-counts : goal.returns-in-Err-clause-counts
returns-in-Err-clause-counts g c =
    counts_after g.D.Disk.downs g.D.Disk.deads (c.judge_block.result ≡ Err LaneStopped) (let r : Result (Unit {0}) LaneFault = Err c.in-Err.fault in r ≡ Err LaneStopped) c.args.self.now.part c.tries.self.part c.judge_block.new.self.part c.tries.invariant.counts
    (λ e. err_as c.in-Err.fault (sym c.in-Err.is ∙ e)) (λ e. c.in-Err.is ∙ err_as c.in-Err.fault e) c.judge_block.ensures.counts

pub returns-in-Err-clause-stopped : goal.returns-in-Err-clause-stopped
returns-in-Err-clause-stopped g c =
    let t = c.judge_block.ensures.stopped in
    ((λ h. err_as c.in-Err.fault (sym c.in-Err.is ∙ t.0 h)), (λ e. t.1 (c.in-Err.is ∙ err_as c.in-Err.fault e)))

pub returns-in-Err-clause-front : goal.returns-in-Err-clause-front
returns-in-Err-clause-front g c =
    c.judge_block.ensures.front ∙ c.tries.invariant.front

pub tries-smaller : goal.tries-smaller
tries-smaller g c =
    (c.in-Ok-Lost.ensures.lost (ap Ok c.in-Ok-Lost.field-0-is)).fewer
