use Rattle.std.proofs.Common.{length}
use Rattle.dap_views.specs.Request.{parts_left}
use Rattle.helper_lane.proofs.parts.+parts_are_here.Given as goal

abbrev pub decreases-parts_are_here : goal.decreases-parts_are_here
decreases-parts_are_here l = length (parts_left l.request)
