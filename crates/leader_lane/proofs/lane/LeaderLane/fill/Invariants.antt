use Rattle.std.proofs.Common.{◌≡◌, ◌-◌, ◌++◌, List, length, drop, IsTrue}
use Rattle.dap_wire.specs.declared.upload.Upload.{Upload}
use Rattle.leader_lane.specs.Lane.{Goes}
use Rattle.leader_lane.proofs.lane.LeaderLane.fill.Given as goal

abbrev pub invariant-taking : goal.invariant-taking
invariant-taking g l = record {
  goes : Goes g.D.Disk.downs g.D.Disk.deads l.initial.self l.self;
  part : l.self.part ≡ l.initial.self.part;
  stopped : l.self.stopped ≡ l.initial.self.stopped;
  up : IsTrue l.self.part.up;
  took : (more : List Upload) × (l.self.book ≡ record l.initial.self.book { hand = l.initial.self.book.hand ++ more }) × (l.self.front.received ≡ l.initial.self.front.received ++ more);
  rest : drop l.most l.self.book.hand ≡ drop l.most l.initial.self.book.hand;
}

abbrev pub decreases-taking : goal.decreases-taking
decreases-taking g l = l.most - length l.self.book.hand
