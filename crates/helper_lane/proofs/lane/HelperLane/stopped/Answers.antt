use Rattle.std.proofs.Common.{subst}
use Rattle.std.specs.Prelude.{IsTrue}
use Rattle.helper_lane.specs.Lane.{HelperView, IsHalted}
use Rattle.helper_lane.proofs.lane.HelperLane.stopped.Goals as goal

pub returns-clause-cause : goal.returns-clause-cause
returns-clause-cause g c = subst (λ (z : HelperView g.row.D.Denot g.row.T.Denot). IsTrue z.stopped → IsHalted z.part) c.self.view_is c.self.invariant.0.halted
