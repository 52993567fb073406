use Rattle.leader_lane.specs.Lane.{LaneView}
use Rattle.leader_lane.proofs.CallLaws.{lane_empties}
use Rattle.leader_lane.proofs.lane.LeaderLane.answers.Goals as goal

pub invariant_of-self : goal.invariant_of-self
invariant_of-self g c =
    let v : LaneView g.row.D.Denot g.row.T.Denot = record { part = c.self.inside.journal; book = c.self.inside.book; front = c.self.inside.front; link = c.self.inside.link; tasks = c.self.inside.tasks; place = c.self.inside.place; start = c.self.inside.start; stopped = c.self.inside.stopped } in
    lane_empties g.D.Disk.downs g.D.Disk.deads c.self.inside.catalog v c.take_answers.new.self c.self.invariant c.take_answers.ensures.rest
