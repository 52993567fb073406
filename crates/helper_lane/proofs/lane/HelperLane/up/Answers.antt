use Rattle.std.proofs.Common.{subst}
use Rattle.std.specs.Prelude.{IsTrue}
use Rattle.lane_records.specs.Records.{record_}
use Rattle.part_journal.specs.Part.{Holds}
use Rattle.helper_lane.specs.Lane.{HelperView, IsAwake}
use Rattle.helper_lane.proofs.lane.HelperLane.up.Goals as goal

pub returns-clause-awake : goal.returns-clause-awake
returns-clause-awake g c = subst (λ (z : HelperView g.row.D.Denot g.row.T.Denot). IsTrue z.up → IsAwake z.part z.stopped) c.self.view_is c.self.invariant.0.awake

pub returns-clause-images : goal.returns-clause-images
returns-clause-images g c = subst (λ (z : HelperView g.row.D.Denot g.row.T.Denot). Holds g.D.Disk.may_leave record_.spell z.part) c.self.view_is c.up-back.ensures.images
