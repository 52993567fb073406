use Rattle.std.proofs.Common.{◌≡◌, IsTrue}
use Rattle.part_journal.specs.Counts.{CountsStops}
use Rattle.leader_lane.specs.Lane.{Goes}
use Rattle.leader_lane.proofs.lane.LeaderLane.judge_hand.Given as goal

abbrev pub invariant-tries : goal.invariant-tries
invariant-tries g l = record {
  goes : Goes g.D.Disk.downs g.D.Disk.deads l.initial.self l.self;
  counts : CountsStops g.D.Disk.downs g.D.Disk.deads ⊥ l.initial.self.part.left l.self.part.left l.initial.self.part.disk l.self.part.disk;
  up : IsTrue l.self.part.up;
  hand : l.self.book.hand ≡ l.initial.self.book.hand;
  answers : l.self.book.answers ≡ l.initial.self.book.answers;
  front : l.self.front ≡ l.initial.self.front;
}

abbrev pub decreases-tries : goal.decreases-tries
decreases-tries g l = l.self.part.left
