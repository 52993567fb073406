use Rattle.std.proofs.Common.{sym, subst, IsTrue, length, ◌<◌}
use Rattle.leader_lane.specs.Lane.{LaneView, Goes}
use Rattle.leader_lane.proofs.CallLaws.{lane_holds}
use Rattle.leader_lane.proofs.lane.LeaderLane.take_one.Goals as goal

pub invariant_of-self : goal.invariant_of-self
invariant_of-self g c =
    let v : LaneView g.row.D.Denot g.row.T.Denot = record { part = c.self.inside.journal; book = c.self.inside.book; front = c.self.inside.front; link = c.self.inside.link; tasks = c.self.inside.tasks; place = c.self.inside.place; start = c.self.inside.start; stopped = c.self.inside.stopped } in
    let on : IsTrue v.part.up = subst (λ (z : LaneView g.row.D.Denot g.row.T.Denot). IsTrue z.part.up) (sym c.self.view_is) c.requires.up in
    let few : length v.book.hand < 64 = subst (λ (z : LaneView g.row.D.Denot g.row.T.Denot). length z.book.hand < 64) (sym c.self.view_is) c.requires.few in
    (lane_holds g.D.Disk.downs g.D.Disk.deads c.self.inside.catalog v c.take_from.new.self c.take_from.new.front c.take_from.result c.self.invariant (c.up-up.ensures.rest on).fate few c.take_from.ensures.took c.take_from.ensures.none c.take_from.ensures.err c.take_from.ensures.ring).0

pub returns-clause-goes : goal.returns-clause-goes
returns-clause-goes g c =
    let v : LaneView g.row.D.Denot g.row.T.Denot = record { part = c.self.inside.journal; book = c.self.inside.book; front = c.self.inside.front; link = c.self.inside.link; tasks = c.self.inside.tasks; place = c.self.inside.place; start = c.self.inside.start; stopped = c.self.inside.stopped } in
    let on : IsTrue v.part.up = subst (λ (z : LaneView g.row.D.Denot g.row.T.Denot). IsTrue z.part.up) (sym c.self.view_is) c.requires.up in
    let few : length v.book.hand < 64 = subst (λ (z : LaneView g.row.D.Denot g.row.T.Denot). length z.book.hand < 64) (sym c.self.view_is) c.requires.few in
    subst (λ (z : LaneView g.row.D.Denot g.row.T.Denot). Goes g.D.Disk.downs g.D.Disk.deads z (record v { book = c.take_from.new.self; front = c.take_from.new.front })) c.self.view_is
    (lane_holds g.D.Disk.downs g.D.Disk.deads c.self.inside.catalog v c.take_from.new.self c.take_from.new.front c.take_from.result c.self.invariant (c.up-up.ensures.rest on).fate few c.take_from.ensures.took c.take_from.ensures.none c.take_from.ensures.err c.take_from.ensures.ring).1
