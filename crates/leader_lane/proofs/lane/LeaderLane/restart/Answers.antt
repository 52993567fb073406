use Rattle.std.proofs.Common.{◌≡◌, sym, subst, ◌∙◌, Option, Bool}
use Rattle.leader_lane.specs.Lane.{LaneView, Goes}
use Rattle.leader_lane.proofs.CallLaws.{lane_restarts, Settled}
use Rattle.leader_lane.proofs.lane.LeaderLane.restart.Goals as goal

pub invariant_of-self : goal.invariant_of-self
invariant_of-self g c =
    let v : LaneView g.row.D.Denot g.row.T.Denot = record { part = c.self.inside.journal; book = c.self.inside.book; front = c.self.inside.front; link = c.self.inside.link; tasks = c.self.inside.tasks; place = c.self.inside.place; start = c.self.inside.start; stopped = c.self.inside.stopped } in
    let n = c.restart-outcome.ensures in
    let t = c.settle-2.ensures in
    let both = c.fate-2.ensures.fate ∙ sym c.fate.ensures.fate in
    let same : c.fate-2.result ≡ c.fate.result = both in
    let settled : Settled c.self.inside.catalog c.settle-2.new.self c.fate.result = subst (λ (f : Option Bool). Settled c.self.inside.catalog c.settle-2.new.self f) same (t.landed, t.lost, t.open) in
    (lane_restarts g.D.Disk.downs g.D.Disk.deads c.self.inside.catalog c.settle-2.new.self v c.restart-outcome.new.self c.fate.result c.settle.new.self c.has_stopped-self-inside.result c.restart-outcome.result c.self.invariant n.ok n.err n.came n.dead n.counts n.same c.fate.ensures.fate c.settle.ensures c.has_stopped-self-inside.ensures settled).0

pub returns-clause-goes : goal.returns-clause-goes
returns-clause-goes g c =
    let v : LaneView g.row.D.Denot g.row.T.Denot = record { part = c.self.inside.journal; book = c.self.inside.book; front = c.self.inside.front; link = c.self.inside.link; tasks = c.self.inside.tasks; place = c.self.inside.place; start = c.self.inside.start; stopped = c.self.inside.stopped } in
    let n = c.restart-outcome.ensures in
    let t = c.settle-2.ensures in
    let both = c.fate-2.ensures.fate ∙ sym c.fate.ensures.fate in
    let same : c.fate-2.result ≡ c.fate.result = both in
    let settled : Settled c.self.inside.catalog c.settle-2.new.self c.fate.result = subst (λ (f : Option Bool). Settled c.self.inside.catalog c.settle-2.new.self f) same (t.landed, t.lost, t.open) in
    subst (λ (z : LaneView g.row.D.Denot g.row.T.Denot). Goes g.D.Disk.downs g.D.Disk.deads z (record v { part = c.restart-outcome.new.self; book = c.settle.new.self; stopped = c.has_stopped-self-inside.result })) c.self.view_is
    (lane_restarts g.D.Disk.downs g.D.Disk.deads c.self.inside.catalog c.settle-2.new.self v c.restart-outcome.new.self c.fate.result c.settle.new.self c.has_stopped-self-inside.result c.restart-outcome.result c.self.invariant n.ok n.err n.came n.dead n.counts n.same c.fate.ensures.fate c.settle.ensures c.has_stopped-self-inside.ensures settled).1
